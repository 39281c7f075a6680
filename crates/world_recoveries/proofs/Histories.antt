-- What was told and sent stays, and what a change adds to it.
use Rattle.std.proofs.Common.{◌≡◌, ℕ, zero, suc, ◌+◌, ◌-◌, ◌⊎◌, inl, inr, List, [], ◌∷◌, ◌++◌, slice_get, Option, Some, None, Ok, Err, refl, sym, ◌∙◌, ap, subst, arith}
use Rattle.std.specs.Prelude.{option_map}
use Rattle.std.proofs.lemmas.Option.{none-some, same_Some}
use Rattle.hd_base.specs.declared.numbers.Stamp.{Stamp}
use Rattle.name_core.specs.declared.calls.OfficeAnswer.TheVariants as office
use Rattle.op_headers.specs.declared.ops.Op.TheVariants as op
use Rattle.op_headers.specs.declared.ops.RecoveryOp.{RecoveryOp}
use Rattle.op_headers.specs.declared.ops.RecoveryKind.TheVariants as kind
use Rattle.world_laws.specs.RecoveryCore.Phase.{Phase}
use Rattle.world_laws.specs.RecoveryCore.Phase.TheVariants as phase
use Rattle.world_laws.specs.RecoveryCore.Primaries.{request_of}
use Rattle.world_laws.specs.World.Parts.{Message, request, recovery_answer, Dialled, Updated, Told, Leading, Primary, no_primary, was_told, leads, has_led}
use Rattle.world_laws.specs.World.Worlds.{Past, World, Dial, Change, dial_at, listed, past_after}
use Rattle.world_laws.specs.World.Safe.{Has}
use Rattle.world_laws.specs.Growing.{Begins, Grows}
use Rattle.world_laws.specs.Stamping.{Givens}
use Rattle.world_laws.proofs.ByteFrame.{dial-place}
use Rattle.world_laws.specs.Joining.{joined_as}
use Rattle.world_laws.proofs.SetupNodes.{get-more}
use Rattle.world_recoveries.specs.Recovering.{ReplicaTold, WasSent, Informs, Updates, Agrees, InfoFits, ToldOpen, UpdateFits, HasId, ToldAt, LeadingFits, LeadFits, PhaseSends, ToldSends, SendsFits}

-- LISTS

-- what stands in two lists joined
pub split-get : {A : Type 0} (xs ys : List A) (i : ℕ) (x : A) → slice_get (xs ++ ys) i ≡ Some x → ((j : ℕ) × (slice_get xs j ≡ Some x)) ⊎ ((j : ℕ) × (slice_get ys j ≡ Some x))
split-get [] ys i x e = inr (i, e)
split-get (z ∷ xs) ys zero x e = inl (zero, e)
split-get {A} (z ∷ xs) ys (suc i) x e = go (split-get xs ys i x e)
  where
    go : ((j : ℕ) × (slice_get xs j ≡ Some x)) ⊎ ((j : ℕ) × (slice_get ys j ≡ Some x)) → ((j : ℕ) × (slice_get (z ∷ xs) j ≡ Some x)) ⊎ ((j : ℕ) × (slice_get ys j ≡ Some x))
    go (inl q) = inl (suc q.0, q.1)
    go (inr q) = inr q

pub begins-get : {A : Type 0} (xs ys : List A) (i : ℕ) (x : A) → Begins xs ys → slice_get xs i ≡ Some x → slice_get ys i ≡ Some x
begins-get {A} xs ys i x b e = subst (λ (zs : List A). slice_get zs i ≡ Some x) b.joins (get-more xs b.rest i x e)

pub has-later : {A : Type 0} (xs ys : List A) (x : A) → Begins xs ys → Has xs x → Has ys x
has-later xs ys x b h = record { place = h.place; there = begins-get xs ys h.place x b h.there }

-- one message stands first
pub first-once : (a b : RecoveryOp) (o : Option Message) → o ≡ Some (request (op.Recovery a)) → o ≡ Some (request (op.Recovery b)) → a ≡ b
first-once a b o p q = same (same_Some (request (op.Recovery a)) (request (op.Recovery b)) (sym p ∙ q))
  where
    same : request (op.Recovery a) ≡ request (op.Recovery b) → a ≡ b
    same e = cc

-- LATER PASTS

pub informs-later : (h p : Past) (c b : ℕ) (id : Stamp) (i : ReplicaTold) → Grows h p → Informs h c b id i → Informs p c b id i
informs-later h p c b id i g x = record {
  asked = x.asked;
  first = begins-get (h.downs c) (p.downs c) 0 (request (op.Recovery x.asked)) (g.downs c) x.first;
  block = x.block;
  recovery = x.recovery;
  place = x.place;
  answer = x.answer;
  there = begins-get (h.ups c) (p.ups c) x.place (recovery_answer x.answer) (g.ups c) x.there;
  info = x.info;
}

pub agrees-later : (h p : Past) (c : ℕ) (q : RecoveryOp) → Grows h p → Agrees h c q → Agrees p c q
agrees-later h p c q g x = record {
  asked = x.asked;
  first = begins-get (h.downs c) (p.downs c) 0 (request (op.Recovery x.asked)) (g.downs c) x.first;
  block = x.block;
  stamp = x.stamp;
  recovery = x.recovery;
}

pub info-later : (g : Givens) (h p : Past) (c b : ℕ) (named id : Stamp) (i : ReplicaTold) → Grows h p → InfoFits g h c b named id i → InfoFits g p c b named id i
info-later g h p c b named id i d x = record {
  known = omega (arith, x.known, d.conns);
  named_below = x.named_below;
  below = x.below;
  session = x.session;
  given = x.given;
  joins = λ e. subst (λ (y : Dialled). Has p.joined (joined_as i.1.0 y.to.node y.to.life)) (sym (d.dialled c x.known)) (has-later h.joined p.joined _ d.joined (x.joins e));
}

open-later : (h p : Past) (b : ℕ) (id : Stamp) (n : ℕ) → Grows h p → ToldOpen h b id n → ToldOpen p b id n
open-later h p b id n d x = record { conn = x.conn; told = x.told; informs = informs-later h p x.conn b id x.told d x.informs; is_open = x.is_open; length = x.length }

pub update-later : (h p : Past) (c b : ℕ) (id : Stamp) (n : ℕ) → Grows h p → UpdateFits h c b id n → UpdateFits p c b id n
update-later h p c b id n d x = record {
  conn = x.conn;
  told = x.told;
  informs = informs-later h p x.conn b id x.told d x.informs;
  here = omega (arith, x.here, d.conns);
  there = omega (arith, x.there, d.conns);
  to = ap (λ (y : Dialled). y.to) (d.dialled x.conn x.there) ∙ x.to ∙ sym (ap (λ (y : Dialled). y.to) (d.dialled c x.here));
  least = x.least;
  final = x.final;
  opens = λ e. open-later h p b id n d (x.opens e);
}

updates-later : (h p : Past) (c b : ℕ) (id : Stamp) (n : ℕ) → Grows h p → Updates h c b id n → Updates p c b id n
updates-later h p c b id n d x = record {
  asked = x.asked;
  place = x.place;
  there = begins-get (h.downs c) (p.downs c) x.place (request (op.Recovery x.asked)) (d.downs c) x.there;
  is_update = x.is_update;
  block = x.block;
  recovery = x.recovery;
  length = x.length;
}

pub was-sent-later : (h p : Past) (u : Updated) → Grows h p → WasSent h u → WasSent p u
was-sent-later h p u d x = record {
  conn = x.conn;
  known = omega (arith, x.known, d.conns);
  to = ap (λ (y : Dialled). y.to) (d.dialled x.conn x.known) ∙ x.to;
  sent = updates-later h p x.conn u.block (record { 0 = u.recovery }) u.length d x.sent;
}

told-later : (h p : Past) (l : Leading) (place : ℕ) (i : ReplicaTold) → Grows h p → ToldAt h l place i → ToldAt p l place i
told-later h p l place i d x = record { conn = x.conn; there = x.there; informs = informs-later h p x.conn l.state.block.0 l.state.begun.id i d x.informs }

pub leading-later : (h p : Past) (l : Leading) → Grows h p → LeadingFits h l → LeadingFits p l
leading-later h p l d x = record {
  life_of = x.life_of;
  known = λ i c e. omega (arith, x.known i c e, d.conns);
  places = λ i c m e q. ap (λ (y : Dialled). y.to) (d.dialled c (x.known i c e)) ∙ x.places i c m e q;
  first = λ i c e. begins-get (h.downs c) (p.downs c) 0 (request (op.Recovery (request_of l.state kind.Init 0))) (d.downs c) (x.first i c e);
  told = λ i at s n ended e. told-later h p l i (at, s, n) d (x.told i at s n ended e);
}

pub lead-later : (h p : Past) (x : Primary) → Grows h p → LeadFits h x → LeadFits p x
lead-later h p no_primary d x = tt
lead-later h p (was_told b t) d x = tt
lead-later h p (leads l) d x = leading-later h p l d x
lead-later h p (has_led r) d x = tt

-- UPDATEs that were sent

-- no other UPDATE of these ids was sent
pub record Same (h p : Past) (id : Stamp) : Type 0 where
  pub back : (c b n : ℕ) → Updates p c b id n → Updates h c b id n

phase-later : (h p : Past) (id : Stamp) (x : Phase) → Same h p id → PhaseSends h id x → PhaseSends p id x
phase-later h p id phase.Informing s x = λ c b n u. x c b n (s.back c b n u)
phase-later h p id (phase.Updating m) s x = λ c b n u. x c b n (s.back c b n u)
phase-later h p id phase.Over s x = tt

told-sends-later : (h p : Past) (t : Told) → ((id : Stamp) → HasId (was_told (record { 0 = 0 }) t) id → Same h p id) → ToldSends h t → ToldSends p t
told-sends-later h p (Ok (office.Begun begun)) s x = λ c b n u. x c b n ((s begun.id refl).back c b n u)
told-sends-later h p (Ok (office.Stamp a)) s x = tt
told-sends-later h p (Ok (office.Reopened a)) s x = tt
told-sends-later h p (Ok office.Nothing) s x = tt
told-sends-later h p (Err e) s x = tt

pub sends-later : (h p : Past) (x : Primary) → ((id : Stamp) → HasId x id → Same h p id) → SendsFits h x → SendsFits p x
sends-later h p no_primary s x = tt
sends-later h p (was_told b t) s x = told-sends-later h p t s x
sends-later h p (leads l) s x = phase-later h p l.state.begun.id l.state.phase (s l.state.begun.id refl) x
sends-later h p (has_led r) s x = tt

-- WHAT A CHANGE SENDS DOWN

-- a message that stands there was sent before, is sent now, or is the request of a dial
pub data NewDown (w : World) (k : Change) (c : ℕ) (m : Message) : Type 0 where
  was_sent : (j : ℕ) → slice_get (w.downs c) j ≡ Some m → NewDown w k c m
  is_sent : (j : ℕ) → slice_get (k.downs c) j ≡ Some m → NewDown w k c m
  is_dialled : (j : ℕ) (d : Dial) → slice_get k.dials j ≡ Some d → d.request ≡ m → w.next_conn + j ≡ c → NewDown w k c m

pub new-down : (w : World) (k : Change) (c i : ℕ) (m : Message) → slice_get ((past_after w k).downs c) i ≡ Some m → NewDown w k c m
new-down w k c i m e = either (split-get (w.downs c ++ k.downs c) (listed (option_map (λ d. d.request) (dial_at w.next_conn k.dials c))) i m e)
  where
    dialled : (o : Option Dial) → dial_at w.next_conn k.dials c ≡ o → (j : ℕ) → slice_get (listed (option_map (λ d. d.request) o)) j ≡ Some m → NewDown w k c m
    dialled None q j r = absurd (none-some m r)
    dialled (Some d) q zero r = let at = dial-place w.next_conn k.dials c d q in is_dialled (c - w.next_conn) d at.0 (same_Some d.request m r) at.1
    dialled (Some d) q (suc j) r = absurd (none-some m r)

    sent : ((j : ℕ) × (slice_get (w.downs c) j ≡ Some m)) ⊎ ((j : ℕ) × (slice_get (k.downs c) j ≡ Some m)) → NewDown w k c m
    sent (inl q) = was_sent q.0 q.1
    sent (inr q) = is_sent q.0 q.1

    either : ((j : ℕ) × (slice_get (w.downs c ++ k.downs c) j ≡ Some m)) ⊎ ((j : ℕ) × (slice_get (listed (option_map (λ d. d.request) (dial_at w.next_conn k.dials c))) j ≡ Some m)) → NewDown w k c m
    either (inl q) = sent (split-get (w.downs c) (k.downs c) q.0 m q.1)
    either (inr q) = dialled (dial_at w.next_conn k.dials c) refl q.0 q.1
