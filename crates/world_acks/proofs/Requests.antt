-- Which requests wait to be taken: what a change sends, and what follows for the stamps under which none waits.
use Rattle.std.proofs.Common.{◌≡◌, ℕ, ◌<◌, ◌≤◌, ◌+◌, ◌-◌, ◌⊎◌, inl, inr, Bool, true, false, List, [], ◌∷◌, ◌++◌, length, slice_get, Option, Some, None, refl, sym, ◌∙◌, ap, subst, arith, eqb-true}
use Rattle.std.specs.Prelude.{◌==◌, nat_le, if◌then◌else◌, option_map}
use Rattle.std.proofs.lemmas.Bool.{eqb-false}
use Rattle.std.proofs.lemmas.Bool.Decides.{nat_tests}
use Rattle.std.proofs.lemmas.Option.{none-some, same_Some}
use Rattle.hd_base.specs.declared.numbers.Stamp.{Stamp}
use Rattle.op_headers.specs.declared.ops.Op.TheVariants as op
use Rattle.op_headers.specs.Values.{WriteFields}
use Rattle.member_core.specs.declared.requests.SetupKind.TheVariants as kind
use Rattle.member_core.specs.Requests.{setup_with}
use Rattle.writer_core.specs.declared.phases.Phase.{Phase}
use Rattle.writer_core.specs.declared.phases.Phase.TheVariants as phase
use Rattle.writer_core.specs.declared.phases.Setup.{Setup}
use Rattle.writer_core.specs.declared.records.WriterRecord.{WriterRecord}
use Rattle.world_recoveries.specs.World.Parts.{Message, request, Lower, idle, Writing}
use Rattle.world_recoveries.specs.World.Worlds.{Past, World, Dial, Change, listed, dial_at, past_after, apply}
use Rattle.world_recoveries.proofs.WorldLaws.GrowthLaws.{apply-grows}
use Rattle.world_recoveries.proofs.WorldLaws.FactTables.{if-each}
use Rattle.world_recoveries.specs.WorldLaws.Stamping.{Givens, heard}
use Rattle.world_recoveries.specs.WorldLaws.Carrying.{new_stamp, Sets, AsksFor, Asks}
use Rattle.world_recoveries.proofs.WorldLaws.ByteLeaves.{Facts}
use Rattle.world_acks.specs.Waiting.{Waits, HasFirst, Unasked, Requests, IsQuiet}
use Rattle.world_acks.proofs.Moves.{Follows, IsUnstamped, none-stamped}
use Rattle.world_acks.proofs.Frame.{begins-first, dial-place, dial-none}

-- WHAT A CHANGE SENDS

-- The write request of a new connection: a member's own, which it takes and passes on, or that of a writer, whose setup had its stamp and is dialled.
pub data NewRequest (w : World) (k : Change) (f : WriteFields) : Type 0 where
  of_member : (q : WriteFields) → Waits w k.lower_at q → (k.lower ≡ idle → ⊥) → new_stamp f ≡ new_stamp q → f.stage ≡ q.stage → NewRequest w k f
  of_writer : (s : Setup) (t : Stamp) → (heard (w.writers k.writer_at)).phase ≡ phase.Stamped s t → new_stamp f ≡ t → IsUnstamped (heard k.writer).phase → NewRequest w k f

-- a lower end that took something doesn't wait any more, what dials sends nothing else, and at most the first dial is one with a write request
pub record Requesting (w : World) (k : Change) : Type 0 where
  pub lower : k.lower ≡ idle → w.lowers k.lower_at ≡ idle
  pub alone : (i : ℕ) (d : Dial) → slice_get k.dials i ≡ Some d → (c : ℕ) → k.downs c ≡ []
  pub each : (i : ℕ) (d : Dial) (f : WriteFields) → slice_get k.dials i ≡ Some d → d.request ≡ request (op.Write f) → (i ≡ 0) × NewRequest w k f
  pub own : Unasked w.past (heard k.writer).phase

pub unasked-at : (h : Past) (p : Phase) (s : Setup) (t : Stamp) → Unasked h p → p ≡ phase.Stamped s t → (c : ℕ) → Sets h c t → ⊥
unasked-at h p s t u e = subst (Unasked h) e u

-- a phase under whose stamp nothing was asked
pub to-unasked : (h : Past) (p : Phase) → ((s : Setup) (t : Stamp) → p ≡ phase.Stamped s t → (c : ℕ) → Sets h c t → ⊥) → Unasked h p
to-unasked h (phase.Stamped s t) f = f s t refl
to-unasked h phase.Closed f = tt
to-unasked h (phase.Wanted s) f = tt
to-unasked h (phase.Requested s t) f = tt
to-unasked h (phase.Accepted s t) f = tt
to-unasked h phase.Opened f = tt
to-unasked h (phase.Streaming sent) f = tt
to-unasked h phase.Closing f = tt
to-unasked h phase.Finished f = tt
to-unasked h phase.Completed f = tt
to-unasked h (phase.Failed e) f = tt

-- a change without dials, whose writer is as it was
pub still-requests : (w : World) (k : Change) → Requests w → k.writer ≡ w.writers k.writer_at → k.dials ≡ [] → (k.lower ≡ idle → w.lowers k.lower_at ≡ idle) → Requesting w k
still-requests w k h q e l = record {
  lower = l;
  alone = λ i d s. absurd (none-some d (sym (ap (λ (ds : List Dial). slice_get ds i) e) ∙ s));
  each = λ i d f s. absurd (none-some d (sym (ap (λ (ds : List Dial). slice_get ds i) e) ∙ s));
  own = subst (λ (x : Writing). Unasked w.past (heard x).phase) (sym q) (h.unasked k.writer_at);
}

-- what a writer comes to without being given a stamp
pub follows-unasked : (h : Past) (x y : WriterRecord) → Follows x y → Unasked h x.phase → Unasked h y.phase
follows-unasked h x y f u = to-unasked h y.phase (λ s t e. unasked-at h x.phase s t u (f.stamps s t e))

pub out-unasked : (h : Past) (p : Phase) → IsUnstamped p → Unasked h p
out-unasked h p u = to-unasked h p (λ s t e c x. none-stamped p u s t e)

-- a client's change without dials
pub client-requests : (w : World) (k : Change) → k.lower ≡ w.lowers k.lower_at → k.dials ≡ [] → Unasked w.past (heard k.writer).phase → Requesting w k
client-requests w k l e u = record {
  lower = λ q. sym l ∙ q;
  alone = λ i d s. absurd (none-some d (sym (ap (λ (ds : List Dial). slice_get ds i) e) ∙ s));
  each = λ i d f s. absurd (none-some d (sym (ap (λ (ds : List Dial). slice_get ds i) e) ∙ s));
  own = u;
}

-- one whose dials ask for no write
pub other-requests : (w : World) (k : Change) → Requests w → k.lower ≡ w.lowers k.lower_at → k.writer ≡ w.writers k.writer_at → ((c : ℕ) → k.downs c ≡ []) → ((i : ℕ) (d : Dial) (f : WriteFields) → slice_get k.dials i ≡ Some d → d.request ≡ request (op.Write f) → ⊥)
    → Requesting w k
other-requests w k h l q e none = record {
  lower = λ z. sym l ∙ z;
  alone = λ i d s c. e c;
  each = λ i d f s z. absurd (none i d f s z);
  own = subst (λ (x : Writing). Unasked w.past (heard x).phase) (sym q) (h.unasked k.writer_at);
}

-- WHAT WAITS AFTER IT

-- the same connection's first message
pub first-once : (w : World) (c : ℕ) (f q : WriteFields) → slice_get (w.downs c) 0 ≡ Some (request (op.Write f)) → slice_get (w.downs c) 0 ≡ Some (request (op.Write q)) → f ≡ q
first-once w c f q a b = same f q (same_Some (request (op.Write f)) (request (op.Write q)) (sym a ∙ b))
  where
    same : (x y : WriteFields) → request (op.Write x) ≡ request (op.Write y) → x ≡ y
    same x y e = cc

-- a request that was sent by then was sent before, or is that of the new connection
data Sent (w : World) (k : Change) (c : ℕ) (f : WriteFields) : Type 0 where
  sent_before : slice_get (w.downs c) 0 ≡ Some (request (op.Write f)) → Sent w k c f
  sent_now : c ≡ w.next_conn → NewRequest w k f → Sent w k c f

-- one that waits then waited before, or is that one
data Waiting (w : World) (k : Change) (c : ℕ) (f : WriteFields) : Type 0 where
  waited : Waits w c f → Waiting w k c f
  comes : c ≡ w.next_conn → NewRequest w k f → Waiting w k c f

lower-before : (w : World) (k : Change) (c : ℕ) → Requesting w k → (apply w k).lowers c ≡ idle → w.lowers c ≡ idle
unfolding apply
lower-before w k c r e = go (c == k.lower_at) refl
  where
    go : (t : Bool) → (c == k.lower_at) ≡ t → w.lowers c ≡ idle
    go true q =
        let at : c ≡ k.lower_at = eqb-true c k.lower_at q in
        ap (λ (i : ℕ). w.lowers i) at ∙ r.lower (sym (ap (λ (t : Bool). if t then k.lower else w.lowers c) q) ∙ e)
    go false q = sym (ap (λ (t : Bool). if t then k.lower else w.lowers c) q) ∙ e

less-or : (a b : ℕ) → (a < b) ⊎ (b ≤ a)
less-or a b = go (nat_le b a) refl
  where
    go : (t : Bool) → nat_le b a ≡ t → (a < b) ⊎ (b ≤ a)
    go true e = inr (grind (arith, nat_tests, e))
    go false e = inl (grind (arith, nat_tests, e))

sent : (g l : Givens) (w : World) (k : Change) (c : ℕ) (f : WriteFields) → Requests w → Requesting w k → Facts g w → Facts l (apply w k) → slice_get ((apply w k).downs c) 0 ≡ Some (request (op.Write f)) → Sent w k c f
unfolding apply
sent g l w k c f h r old new x = go (less-or c w.next_conn)
  where
    dialled : (o : Option Dial) → dial_at w.next_conn k.dials c ≡ o → w.next_conn ≤ c → Sent w k c f
    dialled None e le = absurd (none-some (request (op.Write f)) (sym (ap (λ (xs : List Message). slice_get xs 0) none) ∙ x))
      where
        past : w.next_conn + length k.dials ≤ c
        past = at (less-or c (w.next_conn + length k.dials))
          where
            at : (c < w.next_conn + length k.dials) ⊎ (w.next_conn + length k.dials ≤ c) → w.next_conn + length k.dials ≤ c
            at (inl lt) = absurd (omega (arith, le, dial-none w.next_conn k.dials c e lt))
            at (inr ge) = ge

        none : (apply w k).downs c ≡ []
        none = new.fresh c past
    dialled (Some d) e le =
        let at = dial-place w.next_conn k.dials c d e in
        let first : slice_get ((w.downs c ++ k.downs c) ++ listed (option_map (λ (y : Dial). y.request) (dial_at w.next_conn k.dials c))) 0 ≡ Some (request (op.Write f)) = x in
        let named : slice_get ((w.downs c ++ k.downs c) ++ (d.request ∷ [])) 0 ≡ Some (request (op.Write f)) =
        subst (λ (o : Option Dial). slice_get ((w.downs c ++ k.downs c) ++ listed (option_map (λ (y : Dial). y.request) o)) 0 ≡ Some (request (op.Write f))) e first in
        let fresh : slice_get (k.downs c ++ (d.request ∷ [])) 0 ≡ Some (request (op.Write f)) =
        subst (λ (xs : List Message). slice_get ((xs ++ k.downs c) ++ (d.request ∷ [])) 0 ≡ Some (request (op.Write f))) (old.fresh c le) named in
        let says : d.request ≡ request (op.Write f) =
        same_Some d.request (request (op.Write f)) (subst (λ (xs : List Message). slice_get (xs ++ (d.request ∷ [])) 0 ≡ Some (request (op.Write f))) (r.alone (c - w.next_conn) d at.0 c) fresh) in
        let y = r.each (c - w.next_conn) d f at.0 says in
        sent_now (sym at.1 ∙ ap (λ (i : ℕ). w.next_conn + i) y.0 ∙ plus w.next_conn) y.1
      where
        plus : (n : ℕ) → n + 0 ≡ n
        plus n = omega arith

    go : (c < w.next_conn) ⊎ (w.next_conn ≤ c) → Sent w k c f
    go (inl lt) =
        let b = h.begun c lt in
        let after : slice_get ((past_after w k).downs c) 0 ≡ Some b.first = begins-first (w.downs c) ((past_after w k).downs c) b.first ((apply-grows w k).downs c) b.is in
        sent_before (b.is ∙ sym after ∙ x)
    go (inr le) = dialled (dial_at w.next_conn k.dials c) refl le

waiting : (g l : Givens) (w : World) (k : Change) (c : ℕ) (f : WriteFields) → Requests w → Requesting w k → Facts g w → Facts l (apply w k) → Waits (apply w k) c f → Waiting w k c f
waiting g l w k c f h r old new x = go (sent g l w k c f h r old new x.first)
  where
    go : Sent w k c f → Waiting w k c f
    go (sent_before e) = waited (record { first = e; waits = lower-before w k c r x.waits })
    go (sent_now at n) = comes at n

-- A LATER WORLD

sets-on : (w : World) (k : Change) (c : ℕ) (s : Stamp) → Sets w.past c s → Sets (past_after w k) c s
unfolding apply
sets-on w k c s h = record { fields = h.fields; first = begins-first (w.downs c) ((past_after w k).downs c) (request (op.Write h.fields)) ((apply-grows w k).downs c) h.first; is = h.is }

waits-set : (w : World) (c : ℕ) (f : WriteFields) (s : Stamp) → Waits w c f → new_stamp f ≡ s → Sets w.past c s
waits-set w c f s x e = record { fields = f; first = x.first; is = e }

-- no request of a stamp waits, or that was asked before
not-asked : (w : World) (b c : ℕ) (s : Setup) (t : Stamp) → Requests w → (heard (w.writers b)).phase ≡ phase.Stamped s t → Sets w.past c t → ⊥
not-asked w b c s t h e x = unasked-at w.past (heard (w.writers b)).phase s t (h.unasked b) e c x

number-stamp : (a : Stamp) (n : ℕ) → a.0 ≡ n → a ≡ record { 0 = n }
number-stamp a n e = ap (λ (i : ℕ). record { 0 = i }) e

pub quiet-apply : (g l : Givens) (w : World) (k : Change) (s : ℕ) → Requests w → Requesting w k → Facts g w → Facts l (apply w k) → IsQuiet w s → IsQuiet (apply w k) s
unfolding apply
quiet-apply g l w k s h r old new q = record {
  conn = q.conn;
  asked = sets-after q.asked;
  none = λ c f x e a. go c f e a (waiting g l w k c f h r old new x);
}
  where
    sets-after : Sets w.past q.conn (record { 0 = s }) → Sets (apply w k).past q.conn (record { 0 = s })
    sets-after x = sets-on w k q.conn (record { 0 = s }) x

    go : (c : ℕ) (f : WriteFields) → (new_stamp f).0 ≡ s → setup_with f.stage ≡ Some kind.AppendRecovery → Waiting w k c f → ⊥
    go c f e a (waited x) = q.none c f x e a
    go c f e a (comes at (of_member p x busy n stage)) = q.none k.lower_at p x (sym (ap (λ (y : Stamp). y.0) n) ∙ e) (sym (ap setup_with stage) ∙ a)
    go c f e a (comes at (of_writer way t phase n u)) = not-asked w k.writer_at q.conn way t h phase (subst (λ (y : Stamp). Sets w.past q.conn y) (sym (number-stamp (new_stamp f) s e) ∙ n) q.asked)

-- The stamp of a request that was taken is quiet, where nothing was sent in its place or it isn't one to recover an append.
pub quiet-taken : (g l : Givens) (w : World) (k : Change) (f : WriteFields) → Requests w → Requesting w k → Facts g w → Facts l (apply w k) → Waits w k.lower_at f → ((apply w k).lowers k.lower_at ≡ idle → ⊥)
    → (k.dials ≡ []) ⊎ (setup_with f.stage ≡ Some kind.AppendRecovery → ⊥) → IsQuiet (apply w k) (new_stamp f).0
unfolding apply
quiet-taken g l w k f h r old new x busy either = record {
  conn = k.lower_at;
  asked = sets-after (waits-set w k.lower_at f (new_stamp f) x refl);
  none = λ c q y e a. go c q y e a (waiting g l w k c q h r old new y);
}
  where
    sets-after : Sets w.past k.lower_at (new_stamp f) → Sets (apply w k).past k.lower_at (new_stamp f)
    sets-after z = sets-on w k k.lower_at (new_stamp f) z

    stamps : (a b : Stamp) → a.0 ≡ b.0 → a ≡ b
    stamps a b e = ap (λ (i : ℕ). record { 0 = i }) e

    none-dialled : (q : WriteFields) → k.dials ≡ [] → (c : ℕ) → c ≡ w.next_conn → Waits (apply w k) c q → ⊥
    none-dialled q e c at y =
        none-some (request (op.Write q)) (sym (ap (λ (xs : List Message). slice_get xs 0) (new.fresh c (omega (arith, at, ap (λ (ds : List Dial). length ds) e)))) ∙ y.first)

    go : (c : ℕ) (q : WriteFields) → Waits (apply w k) c q → (new_stamp q).0 ≡ (new_stamp f).0 → setup_with q.stage ≡ Some kind.AppendRecovery → Waiting w k c q → ⊥
    go c q y e a (waited z) =
        let at : c ≡ k.lower_at = h.once c k.lower_at q f z x (stamps (new_stamp q) (new_stamp f) e) in
        busy (ap (λ (i : ℕ). (apply w k).lowers i) (sym at) ∙ y.waits)
    go c q y e a (comes at new) = dials either new
      where
        dials : (k.dials ≡ []) ⊎ (setup_with f.stage ≡ Some kind.AppendRecovery → ⊥) → NewRequest w k q → ⊥
        dials (inl none) z = none-dialled q none c at y
        dials (inr isnt) (of_member p z b n stage) = isnt (ap (λ (i : WriteFields). setup_with i.stage) (first-once w k.lower_at f p x.first z.first) ∙ sym (ap setup_with stage) ∙ a)
        dials (inr isnt) (of_writer way t p n u) = not-asked w k.writer_at k.lower_at way t h p (waits-set w k.lower_at f t x (sym (stamps (new_stamp q) (new_stamp f) e) ∙ n))

-- a writer's setup has a stamp that was given for its block
given-of : (g : Givens) (w : World) (b : ℕ) (s : Setup) (t : Stamp) → Facts g w → (heard (w.writers b)).phase ≡ phase.Stamped s t → g b t.0 ≡ Some (w.latest b)
given-of g w b s t h e =
    let x = heard (w.writers b) in
    let a : AsksFor (g b) w.past (w.latest b) x.committed x.stream s t = subst (λ (p : Phase). Asks (g b) w.past (w.latest b) x.committed x.stream p) e (h.carried.writers b).asks in a.given

some-first : (xs : List Message) (m : Message) → (y : Message) × (slice_get (xs ++ m ∷ []) 0 ≡ Some y)
some-first [] m = (m, refl)
some-first (x ∷ xs) m = (x, refl)

begun-apply : (w : World) (k : Change) (c : ℕ) → Requests w → c < w.next_conn + length k.dials → (o : Option Dial) → dial_at w.next_conn k.dials c ≡ o → HasFirst (past_after w k) c
unfolding apply
begun-apply w k c h lt None e =
    let b = h.begun c (dial-none w.next_conn k.dials c e lt) in
    record { first = b.first; is = begins-first (w.downs c) ((past_after w k).downs c) b.first ((apply-grows w k).downs c) b.is }
begun-apply w k c h lt (Some d) e =
    let y = some-first (w.downs c ++ k.downs c) d.request in
    record { first = y.0; is = subst (λ (o : Option Dial). slice_get ((w.downs c ++ k.downs c) ++ listed (option_map (λ (z : Dial). z.request) o)) 0 ≡ Some y.0) (sym e) y.1 }

pub lower-there : (w : World) (k : Change) (c : ℕ) → c ≡ k.lower_at → (apply w k).lowers c ≡ k.lower
unfolding apply
lower-there w k c e = if-each (λ (x : Lower). x ≡ k.lower) (c == k.lower_at) k.lower (w.lowers c) (λ _. refl) (λ q. absurd (eqb-false c k.lower_at q e))

-- one that waited still, and the new one, aren't of one stamp
one-stamp : (w : World) (k : Change) (c : ℕ) (f q : WriteFields) → Requests w → Waits w c f → Waits (apply w k) c f → NewRequest w k q → new_stamp f ≡ new_stamp q → ⊥
one-stamp w k c f q h a y (of_member p z busy n stage) e =
    let at : c ≡ k.lower_at = h.once c k.lower_at f p a z (e ∙ n) in busy (sym (lower-there w k c at) ∙ y.waits)
one-stamp w k c f q h a y (of_writer way t p n u) e = not-asked w k.writer_at c way t h p (waits-set w c f t a (e ∙ n))

once-apply : (w : World) (k : Change) (c d : ℕ) (f q : WriteFields) → Requests w → new_stamp f ≡ new_stamp q → Waits (apply w k) c f → Waits (apply w k) d q → Waiting w k c f → Waiting w k d q → c ≡ d
once-apply w k c d f q h e x y (waited a) (waited b) = h.once c d f q a b e
once-apply w k c d f q h e x y (waited a) (comes at n) = absurd (one-stamp w k c f q h a x n e)
once-apply w k c d f q h e x y (comes at n) (waited b) = absurd (one-stamp w k d q f h b y n (sym e))
once-apply w k c d f q h e x y (comes at n) (comes here m) = at ∙ sym here

-- nothing of this stamp was asked before, and no writer that dials is at it
unasked-then : (g l : Givens) (w : World) (k : Change) (p : Phase) → Requests w → Requesting w k → Facts g w → Facts l (apply w k) → Unasked w.past p
    → ((way : Setup) (s : Setup) (t : Stamp) → p ≡ phase.Stamped s t → (heard (w.writers k.writer_at)).phase ≡ phase.Stamped way t → IsUnstamped (heard k.writer).phase → ⊥) → Unasked (apply w k).past p
unasked-then g l w k p h r old new u other = to-unasked (apply w k).past p (λ s t e c x. go s t e c x.fields x.is (sent g l w k c x.fields h r old new x.first))
  where
    go : (s : Setup) (t : Stamp) → p ≡ phase.Stamped s t → (c : ℕ) (f : WriteFields) → new_stamp f ≡ t → Sent w k c f → ⊥
    go s t e c f is (sent_before x) = unasked-at w.past p s t u e c (record { fields = f; first = x; is = is })
    go s t e c f is (sent_now at (of_member q z busy n stage)) = unasked-at w.past p s t u e k.lower_at (waits-set w k.lower_at q t z (sym n ∙ is))
    go s t e c f is (sent_now at (of_writer way v q n z)) = other way s t e (subst (λ (y : Stamp). (heard (w.writers k.writer_at)).phase ≡ phase.Stamped way y) (sym n ∙ is) q) z

pub requests-apply : (g l : Givens) (w : World) (k : Change) → Requests w → Requesting w k → Facts g w → Facts l (apply w k) → Requests (apply w k)
unfolding apply
requests-apply g l w k h r old new = record {
  begun = λ c lt. begun-apply w k c h lt (dial_at w.next_conn k.dials c) refl;
  once = λ c d f q x y e. once-apply w k c d f q h e x y (waiting g l w k c f h r old new x) (waiting g l w k d q h r old new y);
  unasked = λ b. if-each (λ (z : Writing). Unasked (apply w k).past (heard z).phase) (b == k.writer_at) k.writer (w.writers b)
      (λ _. unasked-then g l w k (heard k.writer).phase h r old new r.own (λ way s t e q z. none-stamped (heard k.writer).phase z s t e))
      (λ n. unasked-then g l w k (heard (w.writers b)).phase h r old new (h.unasked b) (λ way s t e q z.
      eqb-false b k.writer_at n (old.recorded.one b k.writer_at t.0 (w.latest b) (w.latest k.writer_at) (given-of g w b s t old e) (given-of g w k.writer_at way t old q))));
}

-- WORLDS WITH THE SAME PAST

same-waits : (w v : World) (c : ℕ) (f : WriteFields) → v.past ≡ w.past → ((c : ℕ) → v.lowers c ≡ w.lowers c) → Waits v c f → Waits w c f
same-waits w v c f e l x = record { first = subst (λ (h : Past). slice_get (h.downs c) 0 ≡ Some (request (op.Write f))) e x.first; waits = sym (l c) ∙ x.waits }

pub same-quiet : (w v : World) (s : ℕ) → v.past ≡ w.past → ((c : ℕ) → v.lowers c ≡ w.lowers c) → IsQuiet w s → IsQuiet v s
same-quiet w v s e l q = record {
  conn = q.conn;
  asked = subst (λ (h : Past). Sets h q.conn (record { 0 = s })) (sym e) q.asked;
  none = λ c f x. q.none c f (same-waits w v c f e l x);
}

pub same-requests : (w v : World) → v.past ≡ w.past → ((c : ℕ) → v.lowers c ≡ w.lowers c) → ((b : ℕ) → v.writers b ≡ w.writers b) → Requests w → Requests v
same-requests w v e l k h = record {
  begun = λ c lt. subst (λ (p : Past). HasFirst p c) (sym e) (h.begun c (subst (λ (p : Past). c < p.next_conn) e lt));
  once = λ c d f q x y z. h.once c d f q (same-waits w v c f e l x) (same-waits w v d q e l y) z;
  unasked = λ b. subst (λ (x : Writing). Unasked v.past (heard x).phase) (sym (k b)) (subst (λ (p : Past). Unasked p (heard (w.writers b)).phase) (sym e) (h.unasked b));
}
