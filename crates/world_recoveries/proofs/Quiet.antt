-- Changes that send nothing of a recovery.
use Rattle.std.proofs.Common.{◌≡◌, ℕ, suc, inl, List, [], ◌∷◌, ◌++◌, slice_get, Option, Some, None, IfSome, sym, ◌∙◌, subst}
use Rattle.std.specs.Prelude.{option_map}
use Rattle.std.proofs.lemmas.Option.{none-some, same_Some}
use Rattle.hd_base.specs.declared.numbers.Stamp.{Stamp}
use Rattle.op_headers.specs.declared.ops.Op.{Op}
use Rattle.op_headers.specs.declared.ops.Op.TheVariants as op
use Rattle.op_headers.specs.declared.ops.RecoveryOp.{RecoveryOp}
use Rattle.op_headers.specs.Values.{WriteFields}
use Rattle.world_laws.specs.MemberCore.Upward.{Upward}
use Rattle.world_laws.specs.MemberCore.Upward.TheVariants as upward
use Rattle.world_laws.specs.World.Parts.{Message, request, packet, ack, response, read_status, recovery_answer, by_primary, Primary, Updated}
use Rattle.world_laws.specs.World.Worlds.{Past, World, Dial, Change, dial_at, listed, past_after, apply}
use Rattle.world_laws.specs.World.Connections.{sent_on}
use Rattle.world_laws.specs.World.Nodes.{sent_up}
use Rattle.world_laws.proofs.FactTables.{some-weaker}
use Rattle.world_laws.specs.Stamping.{Givens}
use Rattle.world_laws.specs.Carrying.{Sets, Recovers, RecoverySays, Carried}
use Rattle.world_laws.proofs.ByteFrame.{Each, each-nil, each-one, each-cons, past-grows}
use Rattle.world_laws.proofs.ByteLeaves.{Facts, sent-if}
use Rattle.world_laws.proofs.SetupNodes.{get-more}
use Rattle.world_laws.specs.World.Safe.{Has}
use Rattle.world_recoveries.specs.Recovering.{Updates, LeadFits, HasId, SendsFits, IsPlacedIn, Recovering}
use Rattle.world_recoveries.proofs.Histories.{begins-get, was-sent-later, lead-later, sends-later, NewDown, was_sent, is_sent, is_dialled, new-down}
use Rattle.world_recoveries.proofs.Holding.{Books, books-moves}
use Rattle.world_recoveries.proofs.Frame.{IsUpdated, News}

-- a message that tells nothing of a replica
abbrev pub Untold : Message → Type 0
Untold (recovery_answer a) = a.info ≡ None
Untold _ = Unit {0}

-- a request of a recovery, but on a connection that sets up a pipeline, where there is none
abbrev pub OfSetup : Past → ℕ → Message → Type 0
OfSetup h c (request (op.Recovery q)) = (t : Stamp) × Sets h c t
OfSetup h c _ = Unit {0}

pub record QuietDial (w : World) (d : Dial) : Type 0 where
  pub life : d.dialled.to.life ≡ w.lives d.dialled.to.node
  pub silent : (q : RecoveryOp) → d.request ≡ request (op.Recovery q) → ⊥
  pub unled : (i place : ℕ) → d.dialled.upper ≡ by_primary i place → ⊥

-- nothing is sent of a recovery, primaries stay, and a replica that is updated was sent that
pub record Quiet (w : World) (k : Change) : Type 0 where
  pub ups : (c : ℕ) → Each Untold (k.ups c)
  pub downs : (c : ℕ) → Each (OfSetup w.past c) (k.downs c)
  pub dials : Each (QuietDial w) k.dials
  pub primary : k.primary ≡ w.primaries k.primary_at
  pub books : Books (w.replicas k.node k.block) k.replica
  pub updated : (u : Updated) → Has k.updated u → IsUpdated w k w.past u

-- what is sent on a connection
pub each-sent : (P : ℕ → Message → Type 0) (o : Option ℕ) (ms : List Message) → ((c : ℕ) → Each (P c) ms) → (d : ℕ) → Each (P d) (sent_on o ms d)
each-sent P None ms h d = sent-if P None ms tt d
each-sent P (Some c) ms h d = sent-if P (Some c) ms (h c) d

-- what a member sends up tells nothing
pub upward-untold : (f : WriteFields) (o : Option Upward) → Each Untold (sent_up f o)
upward-untold f None = each-nil Untold
upward-untold f (Some (upward.Answer a)) = each-one Untold _ tt
upward-untold f (Some (upward.Ack a)) = each-one Untold _ tt

op-of-setup : (h : Past) (c : ℕ) (t : Stamp) (o : Op) → Sets h c t → OfSetup h c (request o)
op-of-setup h c t (op.Write f) s = tt
op-of-setup h c t (op.Read r) s = tt
op-of-setup h c t (op.Recovery q) s = (t, s)
op-of-setup h c t (op.Transfer r) s = tt
op-of-setup h c t (op.Checksum r) s = tt

message-of-setup : (h : Past) (c : ℕ) (t : Stamp) (m : Message) → Sets h c t → OfSetup h c m
message-of-setup h c t (request o) s = op-of-setup h c t o s
message-of-setup h c t (packet p) s = tt
message-of-setup h c t (ack a) s = tt
message-of-setup h c t (response r) s = tt
message-of-setup h c t (read_status r) s = tt
message-of-setup h c t (recovery_answer a) s = tt

-- all that is sent on a connection that sets up a pipeline
pub each-of-setup : (h : Past) (c : ℕ) (t : Stamp) (ms : List Message) → Sets h c t → Each (OfSetup h c) ms
each-of-setup h c t [] s = each-nil (OfSetup h c)
each-of-setup h c t (m ∷ ms) s = each-cons (OfSetup h c) m ms (message-of-setup h c t m s) (each-of-setup h c t ms s)

-- WHAT IT BRINGS

pub record Brings (g : Givens) (w : World) (k : Change) : Type 0 where
  pub news : Carried g (apply w k) → News g w k

more-get : {A : Type 0} (xs ys : List A) (j : ℕ) (x : A) → slice_get ys j ≡ Some x → (i : ℕ) × (slice_get (xs ++ ys) i ≡ Some x)
more-get [] ys j x e = (j, e)
more-get (z ∷ xs) ys j x e = let r = more-get xs ys j x e in (suc r.0, r.1)

-- no request of a recovery is sent on such a connection
apart : (h : Past) (c : ℕ) (id t : Stamp) → Recovers h c id → Sets h c t → ⊥
apart h c id t r s = differ (same_Some (request (op.Recovery r.asked)) (request (op.Write s.fields)) (sym r.first ∙ s.first))
  where
    differ : request (op.Recovery r.asked) ≡ request (op.Write s.fields) → ⊥
    differ e = cc

pub none-asked : (g : Givens) (w : World) (k : Change) (c j : ℕ) (q : RecoveryOp) → Carried g (apply w k) → Quiet w k → slice_get (k.downs c) j ≡ Some (request (op.Recovery q)) → ⊥
unfolding apply
none-asked g w k c j q h n e =
    let p = past_after w k in
    let x = (n.downs c).at j (request (op.Recovery q)) e in
    let a = more-get (w.downs c) (k.downs c) j (request (op.Recovery q)) e in
    let b = get-more (w.downs c ++ k.downs c) (listed (option_map (λ d. d.request) (dial_at w.next_conn k.dials c))) a.0 (request (op.Recovery q)) a.1 in
    let says : RecoverySays g p c q = h.downs c a.0 (request (op.Recovery q)) b in
    let s = x.1 in
    apart p c q.recovery x.0 says.first (record { fields = s.fields; first = begins-get (w.downs c) (p.downs c) 0 (request (op.Write s.fields)) ((past-grows w k).downs c) s.first; is = s.is })

quiet-updates : (g : Givens) (w : World) (k : Change) (c b : ℕ) (id : Stamp) (n : ℕ) → Carried g (apply w k) → Quiet w k → Updates (past_after w k) c b id n → Updates w.past c b id n
quiet-updates g w k c b id n a q x = go (new-down w k c x.place (request (op.Recovery x.asked)) x.there)
  where
    go : NewDown w k c (request (op.Recovery x.asked)) → Updates w.past c b id n
    go (was_sent j e) = record { asked = x.asked; place = j; there = e; is_update = x.is_update; block = x.block; recovery = x.recovery; length = x.length }
    go (is_sent j e) = absurd (none-asked g w k c j x.asked a q e)
    go (is_dialled j y e r t) = absurd ((q.dials.at j y e).silent x.asked r)

pub quiet-news : (g l : Givens) (w : World) (k : Change) → Facts g w → Recovering l w → Carried l (apply w k) → Quiet w k → News l w k
quiet-news g l w k f h a q =
    let p = past_after w k in
    record {
      moves = books-moves (w.replicas k.node k.block) k.replica (f.full k.node k.block).sound q.books;
      infos = λ c j m i e s. absurd (none-some i (sym ((q.ups c).at j (recovery_answer m) e) ∙ s));
      length = 0;
      asks = λ c j m e. absurd (none-asked l w k c j m a q e);
      dials = λ j d e. let x = q.dials.at j d e in record { life = x.life; agrees = λ m r. absurd (x.silent m r); no_update = λ m r _. x.silent m r; placed = λ i place u. absurd (x.unled i place u) };
      primary = subst (λ (x : Primary). LeadFits p x) (sym q.primary) (lead-later w.past p (w.primaries k.primary_at) (past-grows w k) (h.primaries k.primary_at));
      sends = subst (λ (x : Primary). SendsFits p x) (sym q.primary) (sends-later w.past p (w.primaries k.primary_at) (λ id _. record { back = λ c b n u. quiet-updates l w k c b id n a q u }) (h.sends k.primary_at));
      ids = λ id x. inl (subst (λ (y : Primary). HasId y id) q.primary x);
      placed = λ c place lt u. subst (λ (x : Primary). IsPlacedIn c place x) (sym q.primary) (h.placed c k.primary_at place lt u);
      updated = λ u x. let y = q.updated u x in record { sent = was-sent-later w.past p u (past-grows w k) y.sent; node = y.node; block = y.block; life = y.life; was = y.was; is = y.is; held = y.held; now = y.now };
    }

pub quiet-brings : (g : Givens) (w : World) (o : Option Change) → Facts g w → Recovering g w → IfSome o (Quiet w) → IfSome o (Brings g w)
quiet-brings g w o f h q = some-weaker (Quiet w) (Brings g w) o (λ k x. record { news = λ a. quiet-news g g w k f h a x }) q
