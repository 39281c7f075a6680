-- What a change leaves of it that nodes accept the setup of a stamp once.
use Rattle.std.proofs.Common.{◌≡◌, ℕ, zero, suc, ◌<◌, ◌≤◌, ◌+◌, ◌-◌, ◌⊎◌, inl, inr, Bool, true, false, List, [], ◌∷◌, ◌++◌, length, slice_get, Option, Some, None, refl, sym, ◌∙◌, ap, subst, arith, eqb-true}
use Rattle.std.specs.Prelude.{◌==◌, ◌||◌, not, nat_le, map, unwrap_or, option_map, if◌then◌else◌}
use Rattle.std.proofs.lemmas.Bool.{eqb-false, cases_lt, false≢true}
use Rattle.std.proofs.lemmas.Bool.Decides.{nat_tests}
use Rattle.std.proofs.lemmas.Option.{none-some, same_Some}
use Rattle.std.specs.List.{list_any}
use Rattle.hd_base.specs.declared.numbers.NodeId.{NodeId}
use Rattle.hd_base.specs.declared.numbers.Stamp.{Stamp}
use Rattle.op_headers.specs.declared.nodes.NodeRef.{NodeRef}
use Rattle.op_headers.specs.declared.ops.Op.TheVariants as op
use Rattle.op_headers.specs.Values.{WriteFields}
use Rattle.writer_core.specs.declared.phases.Phase.{Phase}
use Rattle.writer_core.specs.declared.phases.Phase.TheVariants as phase
use Rattle.writer_core.specs.declared.phases.Setup.{Setup}
use Rattle.world.specs.Parts.{Message, request, by_writer, by_member, Dialled, Lower, idle, Writing, Joined}
use Rattle.world.specs.Worlds.{Past, World, Dial, Change, put, listed, dial_at, past_after, apply}
use Rattle.world.specs.Nodes.{node_on, block_of}
use Rattle.world.specs.Clients.{are_distinct}
use Rattle.world.specs.Safe.{Has}
use Rattle.world_laws.proofs.GrowthLaws.{apply-grows}
use Rattle.world_laws.proofs.FactTables.{if-each, and-left, and-right}
use Rattle.world_laws.specs.Stamping.{Givens, InPhase, heard}
use Rattle.packet_codec.specs.declared.packets.Packet.{Packet}
use Rattle.writer_core.specs.declared.phases.Waiting.{Waiting}
use Rattle.world.specs.Parts.{Answered}
use Rattle.world.specs.Worlds.{latest_with}
use Rattle.world_laws.proofs.SetupNodes.{has-split}
use Rattle.world_acks.specs.Acking.{promised}
use Rattle.world_writers.proofs.Reaching.{answers_in}
use Rattle.world_writers.proofs.Stepping.{answers-latest}
use Rattle.world_writers.proofs.Lifting.{Begun, AnswerFits}
use Rattle.std.proofs.Common.{append-nil, IfSome}
use Rattle.world_writers.proofs.Giving.{Sets}
use Rattle.world_laws.specs.Carrying.{new_stamp, AsksFor, Asks}
use Rattle.world_laws.proofs.ByteAsking.{first-dial}
use Rattle.world_laws.proofs.ByteLeaves.{Facts}
use Rattle.world_laws.specs.Joining.{joined_as}
use Rattle.world_acks.specs.Acking.{Asked}
use Rattle.world_acks.proofs.Frame.{begins-first, dial-place, dial-none}
use Rattle.world_acks.proofs.Lowers.{dialled-there}
use Rattle.world_acks.proofs.Setups.{dialled-new}
use Rattle.world_writers.specs.Taking.{Waits, chain, IsUnmet, IsUnasked, Joins}
use Rattle.world_writers.proofs.Trailing.{is_stamped}
use Rattle.world_writers.proofs.Taking.{PassesOn, Begins as WriterBegins, NewRequest, of_member, of_writer, Accepts, Takes}

same-write : (a b : WriteFields) → request (op.Write a) ≡ request (op.Write b) → a ≡ b
same-write a b e = cc

-- a connection has one first request
first-request : (h : Past) (c : ℕ) (f q : WriteFields) → Asked h c f → Asked h c q → f ≡ q
first-request h c f q a b = same-write f q (same_Some (request (op.Write f)) (request (op.Write q)) (sym a.first ∙ b.first))

-- WHAT WAS SENT

-- a request that was sent by then was sent before, or is that of the new connection
data Sent (w : World) (k : Change) (c : ℕ) (f : WriteFields) : Type 0 where
  sent_before : Asked w.past c f → Sent w k c f
  sent_now : c ≡ w.next_conn → (d : Dial) → slice_get k.dials 0 ≡ Some d → NewRequest w k d f → Sent w k c f

some-first : (xs : List Message) (m : Message) → (y : Message) × (slice_get (xs ++ m ∷ []) 0 ≡ Some y)
some-first [] m = (m, refl)
some-first (x ∷ xs) m = (x, refl)

split-has : {A : Type 0} (xs ys : List A) (x : A) → Has (xs ++ ys) x → Has xs x ⊎ Has ys x
split-has {A} xs ys x h = go xs h.place h.there
  where
    step : (z : A) (zs : List A) → Has zs x ⊎ Has ys x → Has (z ∷ zs) x ⊎ Has ys x
    step z zs (inl q) = inl (record { place = suc q.place; there = q.there })
    step z zs (inr q) = inr q

    go : (zs : List A) (i : ℕ) → slice_get (zs ++ ys) i ≡ Some x → Has zs x ⊎ Has ys x
    go [] i e = inr (record { place = i; there = e })
    go (z ∷ zs) zero e = inl (record { place = zero; there = e })
    go (z ∷ zs) (suc i) e = step z zs (go zs i e)

sent : (g l : Givens) (w : World) (k : Change) (c : ℕ) (f : WriteFields) → Joins w → Takes w k → Facts g w → Facts l (apply w k) → Asked (past_after w k) c f → Sent w k c f
unfolding apply
sent g l w k c f h r old new x = go (cases_lt c w.next_conn)
  where
    dialled : (o : Option Dial) → dial_at w.next_conn k.dials c ≡ o → w.next_conn ≤ c → Sent w k c f
    dialled None e le = absurd (none-some (request (op.Write f)) (sym (ap (λ (xs : List Message). slice_get xs 0) (new.fresh c (past (cases_lt c (w.next_conn + length k.dials))))) ∙ x.first))
      where
        past : (c < w.next_conn + length k.dials) ⊎ (w.next_conn + length k.dials ≤ c) → w.next_conn + length k.dials ≤ c
        past (inl lt) = absurd (omega (arith, le, dial-none w.next_conn k.dials c e lt))
        past (inr ge) = ge
    dialled (Some d) e le =
        let at = dial-place w.next_conn k.dials c d e in
        let first : slice_get ((past_after w k).downs c) 0 ≡ Some d.request = subst (λ (n : ℕ). slice_get ((past_after w k).downs n) 0 ≡ Some d.request) at.1 (first-dial g w k (c - w.next_conn) d old (r.alone (c - w.next_conn) d at.0) at.0) in
        let says : d.request ≡ request (op.Write f) = same_Some d.request (request (op.Write f)) (sym first ∙ x.first) in
        let y = r.dials (c - w.next_conn) d f at.0 says in
        sent_now (sym at.1 ∙ ap (λ (i : ℕ). w.next_conn + i) y.0 ∙ plus w.next_conn) d (subst (λ (i : ℕ). slice_get k.dials i ≡ Some d) y.0 at.0) y.1
      where
        plus : (n : ℕ) → n + 0 ≡ n
        plus n = omega arith

    go : (c < w.next_conn) ⊎ (w.next_conn ≤ c) → Sent w k c f
    go (inl lt) =
        let b = h.begun c lt in
        let after : slice_get ((past_after w k).downs c) 0 ≡ Some b.0 = begins-first (w.downs c) ((past_after w k).downs c) b.0 ((apply-grows w k).downs c) b.1 in
        sent_before (record { first = b.1 ∙ sym after ∙ x.first })
    go (inr le) = dialled (dial_at w.next_conn k.dials c) refl le

lower-before : (w : World) (k : Change) (c : ℕ) → Takes w k → put w.lowers k.lower_at k.lower c ≡ idle → w.lowers c ≡ idle
lower-before w k c r e = go (c == k.lower_at) refl
  where
    go : (t : Bool) → (c == k.lower_at) ≡ t → w.lowers c ≡ idle
    go true q = ap (λ (i : ℕ). w.lowers i) (eqb-true c k.lower_at q) ∙ r.lower (sym (ap (λ (t : Bool). if t then k.lower else w.lowers c) q) ∙ e)
    go false q = sym (ap (λ (t : Bool). if t then k.lower else w.lowers c) q) ∙ e

lower-there : (w : World) (k : Change) (c : ℕ) → c ≡ k.lower_at → put w.lowers k.lower_at k.lower c ≡ k.lower
lower-there w k c e = if-each (λ (x : Lower). x ≡ k.lower) (c == k.lower_at) k.lower (w.lowers c) (λ _. refl) (λ q. absurd (eqb-false c k.lower_at q e))

stamp-same : (a b : Stamp) → a.0 ≡ b.0 → a ≡ b
stamp-same a b e = ap (λ (i : ℕ). record { 0 = i }) e

-- ONE REQUEST WAITS

abbrev After : World → Change → ℕ → WriteFields → Type 0
After w k c f = Waits (past_after w k) (put w.lowers k.lower_at k.lower) c f

-- one that waits still isn't of the stamp of the one that was taken
never-taken : (w : World) (k : Change) (c : ℕ) (f own : WriteFields) → Joins w → Waits w.past w.lowers c f → After w k c f → Waits w.past w.lowers k.lower_at own → (k.lower ≡ idle → ⊥) → new_stamp f ≡ new_stamp own → ⊥
never-taken w k c f own h a y z busy e = let at = h.once c k.lower_at f own a z e in busy (sym (lower-there w k c at) ∙ y.waits)

never-new : (w : World) (k : Change) (c : ℕ) (d : Dial) (f q : WriteFields) → Joins w → Waits w.past w.lowers c f → After w k c f → NewRequest w k d q → new_stamp f ≡ new_stamp q → ⊥
never-new w k c d f q h a y (of_member p) e = never-taken w k c f p.own h a y p.waited p.busy (e ∙ p.stamp)
never-new w k c d f q h a y (of_writer p) e = (h.stamped k.writer_at p.setup_is p.stamp p.phase_is).asked c f a.asked (e ∙ p.is)

once-after : (w : World) (k : Change) (c d : ℕ) (f q : WriteFields) → Joins w → Takes w k → new_stamp f ≡ new_stamp q → After w k c f → After w k d q → Sent w k c f → Sent w k d q → c ≡ d
once-after w k c d f q h r e x y (sent_before a) (sent_before b) = h.once c d f q (record { asked = a; waits = lower-before w k c r x.waits }) (record { asked = b; waits = lower-before w k d r y.waits }) e
once-after w k c d f q h r e x y (sent_before a) (sent_now at z i n) = absurd (never-new w k c z f q h (record { asked = a; waits = lower-before w k c r x.waits }) x n e)
once-after w k c d f q h r e x y (sent_now at z i n) (sent_before b) = absurd (never-new w k d z q f h (record { asked = b; waits = lower-before w k d r y.waits }) y n (sym e))
once-after w k c d f q h r e x y (sent_now at z i n) (sent_now here u j m) = at ∙ sym here

-- NODES ARE MET ONCE

dialled-same : (w : World) (k : Change) (c : ℕ) → c < w.next_conn → (past_after w k).dialled c ≡ w.dialled c
unfolding apply
dialled-same w k c lt = (apply-grows w k).dialled c lt

chain-old : (w : World) (k : Change) (c : ℕ) (f : WriteFields) → c < w.next_conn → chain (past_after w k) c f ≡ chain w.past c f
chain-old w k c f lt = ap (λ (d : Dialled). Some d.to.node ∷ map (λ (t : NodeRef). node_on t.xfer) f.targets) (dialled-same w k c lt)

chain-new : (w : World) (k : Change) (c : ℕ) (d : Dial) (f : WriteFields) → c ≡ w.next_conn → slice_get k.dials 0 ≡ Some d → chain (past_after w k) c f ≡ Some d.dialled.to.node ∷ map (λ (t : NodeRef). node_on t.xfer) f.targets
chain-new w k c d f at e = ap (λ (x : Dialled). Some x.to.node ∷ map (λ (t : NodeRef). node_on t.xfer) f.targets) (ap (λ (i : ℕ). (past_after w k).dialled i) at ∙ ap (λ (o : Option Dial). unwrap_or (option_map (λ (x : Dial). x.dialled) o) (w.dialled w.next_conn)) here)
  where
    here : dial_at w.next_conn k.dials w.next_conn ≡ Some d
    here = if-each (λ (o : Option Dial). o ≡ Some d) (nat_le w.next_conn w.next_conn) (slice_get k.dials (w.next_conn - w.next_conn)) None
        (λ _. subst (λ (j : ℕ). slice_get k.dials j ≡ Some d) (none-left w.next_conn) e) (λ f. absurd (low w.next_conn f))
      where
        none-left : (n : ℕ) → 0 ≡ n - n
        none-left n = omega arith

        low : (n : ℕ) → nat_le n n ≡ false → ⊥
        low n q = grind (arith, nat_tests, q)

-- who accepts a setup now didn't stand in the chain of a request that waits still
accepts-apart : (w : World) (k : Change) (c : ℕ) (f : WriteFields) (x : Joined) (n l : ℕ) → Joins w → Waits w.past w.lowers c f → After w k c f → Accepts w k x → x ≡ joined_as (new_stamp f).0 n l → ⊥
accepts-apart w k c f x n l h a y z e = never-taken w k c f z.own h a y z.waited z.busy (stamp-same (new_stamp f) (new_stamp z.own) (ap (λ (j : Joined). j.stamp) (sym e ∙ z.is)))

unmet-old : (g : Givens) (w : World) (k : Change) (c : ℕ) (f : WriteFields) → Joins w → Takes w k → Facts g w → After w k c f → Waits w.past w.lowers c f → IsUnmet (past_after w k) w.nodes c f
unmet-old g w k c f h r old y a = record {
  apart = λ i j n lt p q. u.apart i j n lt (sym (ap (λ (xs : List (Option ℕ)). slice_get xs i) same) ∙ p) (sym (ap (λ (xs : List (Option ℕ)). slice_get xs j) same) ∙ q);
  unmet = λ i n l lt p j. go i n l lt (sym (ap (λ (xs : List (Option ℕ)). slice_get xs i) same) ∙ p) (split-has w.joined k.joined (joined_as (new_stamp f).0 n l) j);
}
  where
    u : IsUnmet w.past w.nodes c f
    u = h.unmet c f a

    same : chain (past_after w k) c f ≡ chain w.past c f
    same = chain-old w k c f (dialled-there g w c (request (op.Write f)) old a.asked.first)

    go : (i n l : ℕ) → n < w.nodes → slice_get (chain w.past c f) i ≡ Some (Some n) → Has w.joined (joined_as (new_stamp f).0 n l) ⊎ Has k.joined (joined_as (new_stamp f).0 n l) → ⊥
    go i n l lt p (inl j) = u.unmet i n l lt p j
    go i n l lt p (inr j) = accepts-apart w k c f (joined_as (new_stamp f).0 n l) n l h a y (r.joined _ j) refl

unmet-member : (w : World) (k : Change) (c : ℕ) (d : Dial) (f : WriteFields) → Joins w → Takes w k → c ≡ w.next_conn → slice_get k.dials 0 ≡ Some d → PassesOn w k d f → IsUnmet (past_after w k) w.nodes c f
unmet-member w k c d f h r at e p = record {
  apart = λ i j n lt x y. less (u.apart (suc i) (suc j) n lt (sym (ap (λ (xs : List (Option ℕ)). slice_get xs i) same) ∙ x) (sym (ap (λ (xs : List (Option ℕ)). slice_get xs j) same) ∙ y));
  unmet = λ i n l lt x j. go i n l lt (sym (ap (λ (xs : List (Option ℕ)). slice_get xs i) same) ∙ x) (split-has w.joined k.joined (joined_as (new_stamp f).0 n l) j);
}
  where
    u : IsUnmet w.past w.nodes k.lower_at p.own
    u = h.unmet k.lower_at p.own p.waited

    same : chain (past_after w k) c f ≡ map (λ (t : NodeRef). node_on t.xfer) p.own.targets
    same = chain-new w k c d f at e ∙ p.rest

    less : {i j : ℕ} → suc i ≡ suc j → i ≡ j
    less q = omega (arith, q)

    go : (i n l : ℕ) → n < w.nodes → slice_get (map (λ (t : NodeRef). node_on t.xfer) p.own.targets) i ≡ Some (Some n) → Has w.joined (joined_as (new_stamp f).0 n l) ⊎ Has k.joined (joined_as (new_stamp f).0 n l) → ⊥
    go i n l lt x (inl j) = u.unmet (suc i) n l lt x (subst (λ (s : Stamp). Has w.joined (joined_as s.0 n l)) p.stamp j)
    go i n l lt x (inr j) = apart (u.apart 0 (suc i) n lt here x)
      where
        z : Accepts w k (joined_as (new_stamp f).0 n l)
        z = r.joined _ j

        here : Some (Some (w.dialled k.lower_at).to.node) ≡ Some (Some n)
        here = ap (λ (y : Joined). Some (Some y.node)) (sym z.is)

        apart : 0 ≡ suc i → ⊥
        apart q = omega (arith, q)

-- the first of distinct members doesn't stand again
never-again : (z : NodeId) (zs : List NodeId) (j : ℕ) (b : NodeId) → are_distinct (z ∷ zs) ≡ true → slice_get zs j ≡ Some b → b.0 ≡ z.0 → ⊥
never-again z zs j b d y e = never-some (list_any (λ m. m.0 == z.0) zs) (and-left (not (list_any (λ m. m.0 == z.0) zs)) (are_distinct zs) d) (some-at zs j b y e)
  where
    never-some : (t : Bool) → not t ≡ true → t ≡ true → ⊥
    never-some true p q = false≢true p
    never-some false p q = false≢true q

    or-right : (s t : Bool) → t ≡ true → (s || t) ≡ true
    or-right true t q = refl
    or-right false t q = q

    some-at : (ys : List NodeId) (i : ℕ) (m : NodeId) → slice_get ys i ≡ Some m → m.0 ≡ z.0 → list_any (λ n. n.0 == z.0) ys ≡ true
    some-at [] i m p q = absurd (none-some m p)
    some-at (y ∷ ys) zero m p q = grind (arith, nat_tests, q, ap (λ (n : NodeId). n.0) (same_Some y m p))
    some-at (y ∷ ys) (suc i) m p q = or-right (y.0 == z.0) (list_any (λ n. n.0 == z.0) ys) (some-at ys i m p q)

distinct-places : (xs : List NodeId) (i j : ℕ) (a b : NodeId) → are_distinct xs ≡ true → slice_get xs i ≡ Some a → slice_get xs j ≡ Some b → a.0 ≡ b.0 → i ≡ j
distinct-places [] i j a b d x y e = absurd (none-some a x)
distinct-places (z ∷ zs) zero zero a b d x y e = refl
distinct-places (z ∷ zs) zero (suc j) a b d x y e = absurd (never-again z zs j b d y (sym e ∙ ap (λ (n : NodeId). n.0) (sym (same_Some z a x))))
distinct-places (z ∷ zs) (suc i) zero a b d x y e = absurd (never-again z zs i a d x (e ∙ ap (λ (n : NodeId). n.0) (sym (same_Some z b y))))
distinct-places (z ∷ zs) (suc i) (suc j) a b d x y e = ap suc (distinct-places zs i j a b (and-right (not (list_any (λ m. m.0 == z.0) zs)) (are_distinct zs) d) x y e)

unmet-writer : (w : World) (k : Change) (c : ℕ) (d : Dial) (f : WriteFields) → Joins w → Takes w k → c ≡ w.next_conn → slice_get k.dials 0 ≡ Some d → WriterBegins w k d f → IsUnmet (past_after w k) w.nodes c f
unmet-writer w k c d f h r at e p = record {
  apart = λ i j n lt x y.
      let a = p.reaches i n lt (sym (ap (λ (xs : List (Option ℕ)). slice_get xs i) same) ∙ x) in
      let b = p.reaches j n lt (sym (ap (λ (xs : List (Option ℕ)). slice_get xs j) same) ∙ y) in
      distinct-places p.members i j a.0 b.0 p.distinct a.1 b.1 (a.2 ∙ sym b.2);
  unmet = λ i n l lt x j. go n l (split-has w.joined k.joined (joined_as (new_stamp f).0 n l) j);
}
  where
    u : IsUnasked w.past p.stamp
    u = h.stamped k.writer_at p.setup_is p.stamp p.phase_is

    same : chain (past_after w k) c f ≡ Some d.dialled.to.node ∷ map (λ (t : NodeRef). node_on t.xfer) f.targets
    same = chain-new w k c d f at e

    go : (n l : ℕ) → Has w.joined (joined_as (new_stamp f).0 n l) ⊎ Has k.joined (joined_as (new_stamp f).0 n l) → ⊥
    go n l (inl j) = u.joined n l (subst (λ (s : Stamp). Has w.joined (joined_as s.0 n l)) p.is j)
    go n l (inr j) =
        let z = r.joined _ j in
        u.asked k.lower_at z.own z.waited.asked (stamp-same (new_stamp z.own) p.stamp (sym (ap (λ (y : Joined). y.stamp) z.is) ∙ ap (λ (s : Stamp). s.0) p.is))

unmet-new : (w : World) (k : Change) (c : ℕ) (d : Dial) (f : WriteFields) → Joins w → Takes w k → c ≡ w.next_conn → slice_get k.dials 0 ≡ Some d → NewRequest w k d f → IsUnmet (past_after w k) w.nodes c f
unmet-new w k c d f h r at e (of_member p) = unmet-member w k c d f h r at e p
unmet-new w k c d f h r at e (of_writer p) = unmet-writer w k c d f h r at e p

unmet-after : (g : Givens) (w : World) (k : Change) (c : ℕ) (f : WriteFields) → Joins w → Takes w k → Facts g w → After w k c f → Sent w k c f → IsUnmet (past_after w k) w.nodes c f
unmet-after g w k c f h r old y (sent_before a) = unmet-old g w k c f h r old y (record { asked = a; waits = lower-before w k c r y.waits })
unmet-after g w k c f h r old y (sent_now at d e n) = unmet-new w k c d f h r at e n

joined-apart : (w : World) (k : Change) (s n m l : ℕ) → Joins w → n < w.nodes → Accepts w k (joined_as s n m) → Has w.joined (joined_as s n l) → ⊥
joined-apart w k s n m l h lt z x =
    (h.unmet k.lower_at z.own z.waited).unmet 0 n l lt (ap (λ (y : Joined). Some (Some y.node)) (sym z.is)) (subst (λ (i : ℕ). Has w.joined (joined_as i n l)) (ap (λ (y : Joined). y.stamp) z.is) x)

single-after : (w : World) (k : Change) (s n l m : ℕ) → Joins w → Takes w k → n < w.nodes → Has w.joined (joined_as s n l) ⊎ Has k.joined (joined_as s n l) → Has w.joined (joined_as s n m) ⊎ Has k.joined (joined_as s n m) → l ≡ m
single-after w k s n l m h r lt (inl x) (inl y) = h.single s n l m lt x y
single-after w k s n l m h r lt (inl x) (inr y) = absurd (joined-apart w k s n m l h lt (r.joined _ y) x)
single-after w k s n l m h r lt (inr x) (inl y) = absurd (joined-apart w k s n l m h lt (r.joined _ x) y)
single-after w k s n l m h r lt (inr x) (inr y) =
    let a = r.joined _ x in
    let b = r.joined _ y in
    ap (λ (j : Joined). j.life) a.is ∙ sym (ap (λ (j : Joined). j.life) b.is)

-- WHAT REQUESTS REACH

dialled-now : (w : World) (k : Change) (c : ℕ) (d : Dial) → c ≡ w.next_conn → slice_get k.dials 0 ≡ Some d → (past_after w k).dialled c ≡ d.dialled
dialled-now w k c d at e = ap (λ (i : ℕ). (past_after w k).dialled i) (at ∙ plus w.next_conn) ∙ dialled-new w k 0 d e
  where
    plus : (n : ℕ) → n ≡ n + 0
    plus n = omega arith

by-apart : (b c : ℕ) → by_writer b ≡ by_member c → ⊥
by-apart b c e = cc

-- a request that a member passes on reaches what its own reaches
passed-reach : (w : World) (k : Change) (c : ℕ) (d : Dial) (f : WriteFields) (o : Option ℕ) → c ≡ w.next_conn → slice_get k.dials 0 ≡ Some d → (p : PassesOn w k d f) → Has (chain (past_after w k) c f) o → Has (chain w.past k.lower_at p.own) o
passed-reach w k c d f o at e p h = record { place = suc h.place; there = sym (ap (λ (xs : List (Option ℕ)). slice_get xs h.place) (chain-new w k c d f at e ∙ p.rest)) ∙ h.there }

reach-old : (g : Givens) (w : World) (k : Change) (c d b : ℕ) (f q : WriteFields) (o : Option ℕ) → Joins w → Facts g w → new_stamp f ≡ new_stamp q → ((past_after w k).dialled c).upper ≡ by_writer b → Asked w.past c f → Sent w k d q → Has (chain (past_after w k) d q) o
    → Has (chain w.past c f) o
reach-old g w k c d b f q o h old e up a (sent_before x) i =
    h.reach c d b f q o a x e (sym (ap (λ (y : Dialled). y.upper) (dialled-same w k c (dialled-there g w c (request (op.Write f)) old a.first))) ∙ up)
    (subst (λ (xs : List (Option ℕ)). Has xs o) (chain-old w k d q (dialled-there g w d (request (op.Write q)) old x.first)) i)
reach-old g w k c d b f q o h old e up a (sent_now at z y (of_member p)) i =
    h.reach c k.lower_at b f p.own o a p.waited.asked (e ∙ p.stamp) (sym (ap (λ (v : Dialled). v.upper) (dialled-same w k c (dialled-there g w c (request (op.Write f)) old a.first))) ∙ up)
    (passed-reach w k d z q o at y p i)
reach-old g w k c d b f q o h old e up a (sent_now at z y (of_writer p)) i = absurd ((h.stamped k.writer_at p.setup_is p.stamp p.phase_is).asked c f a (e ∙ p.is))

-- the request of a new connection of a writer is the only one of its stamp
reach-new : (g : Givens) (w : World) (k : Change) (c d b : ℕ) (f q : WriteFields) (o : Option ℕ) (z : Dial) → Joins w → c ≡ w.next_conn → slice_get k.dials 0 ≡ Some z → NewRequest w k z f → new_stamp f ≡ new_stamp q → ((past_after w k).dialled c).upper ≡ by_writer b
    → Asked (past_after w k) c f → Asked (past_after w k) d q → Sent w k d q → Has (chain (past_after w k) d q) o → Has (chain (past_after w k) c f) o
reach-new g w k c d b f q o z h at y (of_member p) e up a x s i = absurd (by-apart b k.lower_at (sym up ∙ ap (λ (v : Dialled). v.upper) (dialled-now w k c z at y) ∙ p.upper))
reach-new g w k c d b f q o z h at y (of_writer p) e up a x (sent_before r) i = absurd ((h.stamped k.writer_at p.setup_is p.stamp p.phase_is).asked d q r (sym e ∙ p.is))
reach-new g w k c d b f q o z h at y (of_writer p) e up a x (sent_now here u v n) i =
    let same : d ≡ c = here ∙ sym at in
    let asked : Asked (past_after w k) c q = subst (λ (j : ℕ). Asked (past_after w k) j q) same x in
    subst (λ (y : WriteFields). Has (chain (past_after w k) c y) o) (first-request (past_after w k) c q f asked a) (subst (λ (j : ℕ). Has (chain (past_after w k) j q) o) same i)

reach-after : (g : Givens) (w : World) (k : Change) (c d b : ℕ) (f q : WriteFields) (o : Option ℕ) → Joins w → Facts g w → new_stamp f ≡ new_stamp q → ((past_after w k).dialled c).upper ≡ by_writer b → Asked (past_after w k) c f → Asked (past_after w k) d q
    → Sent w k c f → Sent w k d q → Has (chain (past_after w k) d q) o → Has (chain (past_after w k) c f) o
reach-after g w k c d b f q o h old e up a x (sent_before r) s i =
    subst (λ (xs : List (Option ℕ)). Has xs o) (sym (chain-old w k c f (dialled-there g w c (request (op.Write f)) old r.first))) (reach-old g w k c d b f q o h old e up r s i)
reach-after g w k c d b f q o h old e up a x (sent_now at z y n) s i = reach-new g w k c d b f q o z h at y n e up a x s i

-- WRITERS

-- what the writer of a change is then
pub record Then (w : World) (k : Change) : Type 0 where
  pub stamped : (s : Setup) (t : Stamp) → (heard k.writer).phase ≡ phase.Stamped s t → IsUnasked w.past t
  pub members : are_distinct (heard k.writer).members ≡ true

-- two blocks have no setup of one stamp
stamp-apart : (g : Givens) (w : World) (b c : ℕ) (s q : Setup) (t : Stamp) → Facts g w → (heard (w.writers b)).phase ≡ phase.Stamped s t → (heard (w.writers c)).phase ≡ phase.Stamped q t → b ≡ c
stamp-apart g w b c s q t f x y = f.recorded.one b c t.0 (w.latest b) (w.latest c) (given b s x) (given c q y)
  where
    given : (d : ℕ) (z : Setup) → (heard (w.writers d)).phase ≡ phase.Stamped z t → g d t.0 ≡ Some (w.latest d)
    given d z e =
        let v = heard (w.writers d) in
        let a : AsksFor (g d) w.past (w.latest d) v.committed v.stream z t = subst (λ (p : Phase). Asks (g d) w.past (w.latest d) v.committed v.stream p) e (f.carried.writers d).asks in a.given

unasked-after : (g l : Givens) (w : World) (k : Change) (b : ℕ) (s : Setup) (t : Stamp) → Joins w → Takes w k → Facts g w → Facts l (apply w k) → IsUnasked w.past t
    → ((q : Setup) → (heard (w.writers k.writer_at)).phase ≡ phase.Stamped q t → is_stamped (heard k.writer).phase ≡ false → ⊥) → IsUnasked (past_after w k) t
unasked-after g l w k b s t h r old new u other = record {
  asked = λ c f x e. go c f e (sent g l w k c f h r old new x);
  joined = λ n l j. met n l (split-has w.joined k.joined (joined_as t.0 n l) j);
}
  where
    go : (c : ℕ) (f : WriteFields) → new_stamp f ≡ t → Sent w k c f → ⊥
    go c f e (sent_before x) = u.asked c f x e
    go c f e (sent_now at d i (of_member p)) = u.asked k.lower_at p.own p.waited.asked (sym p.stamp ∙ e)
    go c f e (sent_now at d i (of_writer p)) = other p.setup_is (p.phase_is ∙ ap (λ (z : Stamp). phase.Stamped p.setup_is z) (sym p.is ∙ e)) p.dialled_now

    met : (n l : ℕ) → Has w.joined (joined_as t.0 n l) ⊎ Has k.joined (joined_as t.0 n l) → ⊥
    met n l (inl j) = u.joined n l j
    met n l (inr j) =
        let z = r.joined _ j in
        u.asked k.lower_at z.own z.waited.asked (stamp-same (new_stamp z.own) t (sym (ap (λ (y : Joined). y.stamp) z.is)))

not-stamped : (p : Phase) (s : Setup) (t : Stamp) → is_stamped p ≡ false → p ≡ phase.Stamped s t → ⊥
not-stamped p s t e q = false≢true (sym e ∙ ap is_stamped q)

-- what a writer in a phase with a stamp fits
stamped-given : (w : World) (h : Joins w) (b : ℕ) (s : Setup) (t : Stamp) → (heard (w.writers b)).phase ≡ phase.Stamped s t → h.setups b t.0 ≡ Some (w.latest b)
stamped-given w h b s t e =
    let x = heard (w.writers b) in
    let fits : InPhase (h.setups b) (w.latest b) None x.committed x.waiting x.stream.unacked (phase.Stamped s t) =
    subst (λ (q : Phase). InPhase (h.setups b) (w.latest b) None x.committed x.waiting x.stream.unacked q) e (h.fits b) in
    fits.0.session.is

-- the stamp of a request was given to a writer before
given-before : (w : World) (k : Change) (c : ℕ) (f : WriteFields) (h : Joins w) → Sent w k c f → (e : ℕ) × (h.setups (block_of f) (new_stamp f).0 ≡ Some e)
given-before w k c f h (sent_before a) = h.given c f a
given-before w k c f h (sent_now at d i (of_member p)) =
    let x = h.given k.lower_at p.own p.waited.asked in
    (x.0, ap (λ (s : Stamp). h.setups (block_of f) s.0) p.stamp ∙ ap (λ (b : ℕ). h.setups b (new_stamp p.own).0) p.block ∙ x.1)
given-before w k c f h (sent_now at d i (of_writer p)) =
    (w.latest k.writer_at, ap (λ (s : Stamp). h.setups (block_of f) s.0) p.is ∙ ap (λ (d : ℕ). h.setups d p.stamp.0) p.block ∙ stamped-given w h k.writer_at p.setup_is p.stamp p.phase_is)

given-after : (w : World) (k : Change) (c : ℕ) (f : WriteFields) (h : Joins w) (z : Sets w k h.setups) → Sent w k c f → (e : ℕ) × (z.setups (block_of f) (new_stamp f).0 ≡ Some e)
given-after w k c f h z s = let x = given-before w k c f h s in (x.0, z.keeps (block_of f) (new_stamp f).0 x.0 x.1)

-- WHAT IS ANSWERED

-- a length that was answered, or is now
data Answering (w : World) (k : Change) (a : Answered) : Type 0 where
  answered_before : Has w.answered a → Answering w k a
  answered_now : AnswerFits w a → Answering w k a

answering : (w : World) (k : Change) (a : Answered) → IfSome k.answered (AnswerFits w) → Has (w.answered ++ listed k.answered) a → Answering w k a
answering w k a n h = go k.answered n h
  where
    go : (o : Option Answered) → IfSome o (AnswerFits w) → Has (w.answered ++ listed o) a → Answering w k a
    go None n q = answered_before (subst (λ (ys : List Answered). Has ys a) (append-nil w.answered) q)
    go (Some x) n q = either (has-split w.answered x a q)
      where
        either : Has w.answered a ⊎ (x ≡ a) → Answering w k a
        either (inl j) = answered_before j
        either (inr e) = answered_now (subst (λ (y : Answered). AnswerFits w y) e n)

-- the stamp of what is answered now is of the latest session, and no later one was given to a writer
now-given : (w : World) (h : Joins w) (a : Answered) → AnswerFits w a → h.setups a.block a.stamp ≡ Some (w.latest a.block)
now-given w h a n =
    let x = heard (w.writers a.block) in
    ap (λ (s : ℕ). h.setups a.block s) n.stamp ∙ answers-latest (h.setups a.block) (w.latest a.block) None x.committed x.waiting x.stream.unacked x.phase n.answers (h.fits a.block)

answers-newest : (f : ℕ → Option ℕ) (l : ℕ) (c : Stamp) (waits : Option Waiting) (ps : List Packet) (p : Phase) → answers_in p ≡ true → InPhase f l None c waits ps p → (t e : ℕ) → f t ≡ Some e → t ≤ c.0
answers-newest f l c waits ps (phase.Streaming sent) a h = h.0.newest.last refl
answers-newest f l c waits ps phase.Completed a h = h.newest.last refl
answers-newest f l c waits ps phase.Closed a h = absurd (false≢true a)
answers-newest f l c waits ps (phase.Wanted s) a h = absurd (false≢true a)
answers-newest f l c waits ps (phase.Stamped s t) a h = absurd (false≢true a)
answers-newest f l c waits ps (phase.Requested s t) a h = absurd (false≢true a)
answers-newest f l c waits ps (phase.Accepted s t) a h = absurd (false≢true a)
answers-newest f l c waits ps phase.Opened a h = absurd (false≢true a)
answers-newest f l c waits ps phase.Closing a h = absurd (false≢true a)
answers-newest f l c waits ps phase.Finished a h = absurd (false≢true a)
answers-newest f l c waits ps (phase.Failed e) a h = absurd (false≢true a)

answered-given : (w : World) (k : Change) (a : Answered) (h : Joins w) → Answering w k a → (e : ℕ) × (h.setups a.block a.stamp ≡ Some e)
answered-given w k a h (answered_before q) = h.answered a q
answered-given w k a h (answered_now n) = (w.latest a.block, now-given w h a n)

acked-before : (w : World) (k : Change) (a : Answered) (h : Joins w) → Answering w k a → h.setups a.block a.stamp ≡ Some (w.latest a.block) → a.length ≤ (heard (w.writers a.block)).stream.acked
acked-before w k a h (answered_before q) e = h.acked a q e
acked-before w k a h (answered_now n) e = n.acked

acked-after : (w : World) (k : Change) (a : Answered) (h : Joins w) (z : Sets w k h.setups) → Answering w k a → z.setups a.block a.stamp ≡ Some (latest_with w.latest k.stamped a.block) → a.length ≤ (heard (put w.writers k.writer_at k.writer a.block)).stream.acked
acked-after w k a h z q e = go (z.lifts a.block)
  where
    g : (e : ℕ) × (h.setups a.block a.stamp ≡ Some e)
    g = answered-given w k a h q

    same : g.0 ≡ latest_with w.latest k.stamped a.block
    same = same_Some g.0 (latest_with w.latest k.stamped a.block) (sym (z.keeps a.block a.stamp g.0 g.1) ∙ e)

    go : Begun w a.block k.stamped (heard (w.writers a.block)) (heard (put w.writers k.writer_at k.writer a.block)) → a.length ≤ (heard (put w.writers k.writer_at k.writer a.block)).stream.acked
    go (inl x) = omega (arith, acked-before w k a h q (g.1 ∙ ap (λ (i : ℕ). Some i) (same ∙ x.0)), x.1)
    go (inr x) = absurd (omega (arith, h.early a.block a.stamp g.0 g.1, same, x))

cover-old : (w : World) (k : Change) (a : Answered) (c e : ℕ) (f : WriteFields) (h : Joins w) → Has w.answered a → Sent w k c f → block_of f ≡ a.block → h.setups a.block a.stamp ≡ Some e → h.setups a.block (new_stamp f).0 ≡ Some e → a.stamp < (new_stamp f).0
    → a.length ≤ promised f
cover-old w k a c e f h q (sent_before x) b s t lt = h.cover a c e f q x b s t lt
cover-old w k a c e f h q (sent_now at d i (of_member p)) b s t lt =
    let same = ap (λ (v : Stamp). v.0) p.stamp in
    let low = h.cover a k.lower_at e p.own q p.waited.asked (sym p.block ∙ b) s (ap (λ (v : ℕ). h.setups a.block v) (sym same) ∙ t) (omega (arith, lt, same)) in
    omega (arith, low, p.least)
cover-old w k a c e f h q (sent_now at d i (of_writer p)) b s t lt =
    let here : a.block ≡ k.writer_at = sym b ∙ p.block in
    let latest : h.setups a.block (new_stamp f).0 ≡ Some (w.latest a.block) =
    ap (λ (v : Stamp). h.setups a.block v.0) p.is ∙ subst (λ (v : ℕ). h.setups v p.stamp.0 ≡ Some (w.latest v)) (sym here) (stamped-given w h k.writer_at p.setup_is p.stamp p.phase_is) in
    let low = h.acked a q (s ∙ sym t ∙ latest) in
    omega (arith, low, p.covers, ap (λ (v : ℕ). (heard (w.writers v)).stream.acked) here)

cover-after : (w : World) (k : Change) (a : Answered) (c e : ℕ) (f : WriteFields) (h : Joins w) (z : Sets w k h.setups) → Answering w k a → Sent w k c f → block_of f ≡ a.block → z.setups a.block a.stamp ≡ Some e → z.setups a.block (new_stamp f).0 ≡ Some e
    → a.stamp < (new_stamp f).0 → a.length ≤ promised f
cover-after w k a c e f h z q x b s t lt = go q
  where
    g : (e : ℕ) × (h.setups a.block a.stamp ≡ Some e)
    g = answered-given w k a h q

    d : (e : ℕ) × (h.setups (block_of f) (new_stamp f).0 ≡ Some e)
    d = given-before w k c f h x

    there : h.setups a.block (new_stamp f).0 ≡ Some d.0
    there = ap (λ (v : ℕ). h.setups v (new_stamp f).0) (sym b) ∙ d.1

    one : g.0 ≡ e
    one = same_Some g.0 e (sym (z.keeps a.block a.stamp g.0 g.1) ∙ s)

    two : d.0 ≡ e
    two = same_Some d.0 e (sym (z.keeps a.block (new_stamp f).0 d.0 there) ∙ t)

    go : Answering w k a → a.length ≤ promised f
    go (answered_before q) = cover-old w k a c e f h q x b (g.1 ∙ ap (λ (i : ℕ). Some i) one) (there ∙ ap (λ (i : ℕ). Some i) two) lt
    go (answered_now n) =
        let y = heard (w.writers a.block) in
        absurd (omega (arith, answers-newest (h.setups a.block) (w.latest a.block) y.committed y.waiting y.stream.unacked y.phase n.answers (h.fits a.block) (new_stamp f).0 d.0 there, n.stamp, lt))

pub joins-apply : (g l : Givens) (w : World) (k : Change) (h : Joins w) → Takes w k → Then w k → Sets w k h.setups → Facts g w → Facts l (apply w k) → Joins (apply w k)
unfolding apply
joins-apply g l w k h r t z old new = record {
  few = h.few;
  begun = λ c lt. begun c lt (dial_at w.next_conn k.dials c) refl;
  once = λ c d f q x y e. once-after w k c d f q h r e x y (sent g l w k c f h r old new x.asked) (sent g l w k d q h r old new y.asked);
  unmet = λ c f x. unmet-after g w k c f h r old x (sent g l w k c f h r old new x.asked);
  stamped = λ b s v.
      if-each (λ (z : Writing). (heard z).phase ≡ phase.Stamped s v → IsUnasked (past_after w k) v) (b == k.writer_at) k.writer (w.writers b)
      (λ _ e. unasked-after g l w k b s v h r old new (t.stamped s v e) (λ q x n. not-stamped (heard k.writer).phase s v n e))
      (λ n e. unasked-after g l w k b s v h r old new (h.stamped b s v e) (λ q x _. eqb-false b k.writer_at n (stamp-apart g w b k.writer_at s q v old e x)));
  members = λ b. if-each (λ (z : Writing). are_distinct (heard z).members ≡ true) (b == k.writer_at) k.writer (w.writers b) (λ _. t.members) (λ _. h.members b);
  setups = z.setups;
  fits = z.fits;
  under = z.under;
  given = λ c f x. given-after w k c f h z (sent g l w k c f h r old new x);
  sessions = z.sessions;
  early = z.early;
  late = z.late;
  within = z.within;
  order = z.order;
  answered = λ a x. let y = answered-given w k a h (answering w k a z.answers x) in (y.0, z.keeps a.block a.stamp y.0 y.1);
  acked = λ a x e. acked-after w k a h z (answering w k a z.answers x) e;
  cover = λ a c e f x y b s q lt. cover-after w k a c e f h z (answering w k a z.answers x) (sent g l w k c f h r old new y) b s q lt;
  reach = λ c d b f q o x y e up i. reach-after g w k c d b f q o h old e up x y (sent g l w k c f h r old new x) (sent g l w k d q h r old new y) i;
  single = λ s n a b lt x y. single-after w k s n a b h r lt (split-has w.joined k.joined (joined_as s n a) x) (split-has w.joined k.joined (joined_as s n b) y);
}
  where
    begun : (c : ℕ) → c < w.next_conn + length k.dials → (o : Option Dial) → dial_at w.next_conn k.dials c ≡ o → (m : Message) × (slice_get ((past_after w k).downs c) 0 ≡ Some m)
    begun c lt None e =
        let b = h.begun c (dial-none w.next_conn k.dials c e lt) in
        (b.0, begins-first (w.downs c) ((past_after w k).downs c) b.0 ((apply-grows w k).downs c) b.1)
    begun c lt (Some d) e =
        let y = some-first (w.downs c ++ k.downs c) d.request in
        (y.0, subst (λ (o : Option Dial). slice_get ((w.downs c ++ k.downs c) ++ listed (option_map (λ (z : Dial). z.request) o)) 0 ≡ Some y.0) (sym e) y.1)
