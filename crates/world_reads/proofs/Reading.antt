-- A read of answered bytes, at a replica that keeps them and at its book.
use Rattle.std.proofs.Common.{◌≡◌, ◌+◌, ◌≤◌, ℕ, nat_le, true, false, not, List, length, take, drop, Option, Some, None, Result, Ok, Err, refl, sym, ap, subst, ◌∙◌, arith}
use Rattle.std.proofs.lemmas.Bool.Decides.{nat_tests}
use Rattle.std.proofs.lemmas.List.{drop-take, take-take, length-take-le, length-drop}
use Rattle.std.specs.Prelude.{IsOk, IfOk, IfSome}
use Rattle.hd_base.specs.Results.{◌>>=◌}
use Rattle.hd_base.specs.declared.files.Files as files
use Rattle.hd_base.specs.declared.numbers.Receipt.{Receipt}
use Rattle.hd_base.specs.declared.numbers.Stamp.{Stamp}
use Rattle.replica_core.specs.declared.events.Answer.TheVariants as answer
use Rattle.replica_core.specs.declared.events.Event.TheVariants as event
use Rattle.replica_core.specs.declared.info.ReplicaInfo.{ReplicaInfo}
use Rattle.replica_core.specs.declared.records.ReplicaRecord.{ReplicaRecord}
use Rattle.replica_core.specs.declared.refusals.Refusal.{Refusal}
use Rattle.replica_core.specs.declared.refusals.Refusal.TheVariants as core_refusal
use Rattle.replica_core.specs.Refusals.{check}
use Rattle.replica_core.specs.Info.{visible_of, readable}
use Rattle.replica_core.specs.Transitions.{Outcome, there, transition}
use Rattle.replica_model.specs.declared.events.ReplicaEvent.TheVariants as replica_event
use Rattle.replica_files.specs.declared.book_state.BookState.{BookState}
use Rattle.replica_files.specs.declared.faults.BookFault.{BookFault}
use Rattle.replica_files.specs.declared.faults.BookFault.TheVariants as fault
use Rattle.replica_files.specs.Books.{replica_of}
use Rattle.replica_files.specs.Endings.{BookEnds}
use Rattle.replica_files.specs.Reads.{ReadsBytes}
use Rattle.world.specs.Safe.{IsReached, Kept}
use Rattle.world.specs.Worlds.{World}
use Rattle.world_reads.specs.Reading.{Gives, StaysReadable, EndsWith, ReadsAnswered, written_part}

-- ---- a replica takes the read

abbrev IsTaken : Outcome → Type 0
IsTaken x = IsOk x

readable-at : (h : ReplicaInfo) (v : ℕ) (named : Stamp) (offset n : ℕ) → named.0 ≤ h.stamp.0 → offset + n ≤ v → readable h (Some v) named offset n ≡ Ok v
unfolding readable
readable-at h v named offset n no_later below =
    let stamped : nat_le named.0 h.stamp.0 ≡ true = grind (arith, nat_tests) in
    let within : nat_le (offset + n) v ≡ true = grind (arith, nat_tests) in
    rw stamped (rw within refl)

seen : (c : ReplicaRecord) (h : ReplicaInfo) (v : Option ℕ) (named : Stamp) (offset n bytes : ℕ) → named.0 ≤ h.stamp.0 → offset + n ≤ bytes → IfSome v (λ m. bytes ≤ m) → (v ≡ None → ⊥)
    → IsTaken (readable h v named offset n >>= (λ u. Ok (record { replica = c; answer = answer.Visible u })))
seen c h None named offset n bytes no_later below shown some = absurd (some refl)
seen c h (Some v) named offset n bytes no_later below shown some =
    subst (λ x. IsTaken (x >>= (λ u. Ok (record { replica = c; answer = answer.Visible u })))) (sym (readable-at h v named offset n no_later (omega (arith, below, shown)))) refl

present-takes : (c : ReplicaRecord) (i : Option ReplicaInfo) (named : Stamp) (offset n stamp bytes : ℕ) → named.0 ≤ stamp → offset + n ≤ bytes → IfSome i (IsReached stamp bytes) → (i ≡ None → ⊥)
    → IsTaken (check (not false) core_refusal.Broken (there i) >>= (λ h. readable h (visible_of h) named offset n >>= (λ u. Ok (record { replica = c; answer = answer.Visible u }))))
present-takes c None named offset n stamp bytes no_later below reached some = absurd (some refl)
present-takes c (Some h) named offset n stamp bytes no_later below reached some =
    seen c h (visible_of h) named offset n bytes (omega (arith, no_later, reached.stamp_of)) below reached.visible reached.is_visible

takes : (c : ReplicaRecord) (named : Stamp) (offset n stamp bytes : ℕ) → c.is_broken ≡ false → named.0 ≤ stamp → offset + n ≤ bytes → IfSome c.info (IsReached stamp bytes) → (c.info ≡ None → ⊥)
    → IsTaken (transition c (event.Read named offset n))
unfolding transition
takes c named offset n stamp bytes sound no_later below reached some =
    subst (λ b. IsTaken (check (not b) core_refusal.Broken (there c.info) >>= (λ h. readable h (visible_of h) named offset n >>= (λ u. Ok (record { replica = c; answer = answer.Visible u })))))
    (sym sound) (present-takes c c.info named offset n stamp bytes no_later below reached some)

-- ---- its bytes

part-same : (n offset count : ℕ) (xs ys : List ℕ) → take n xs ≡ take n ys → offset + count ≤ n → take count (drop offset xs) ≡ take count (drop offset ys)
part-same n offset count xs ys same below =
    sym (drop-take offset count xs)
    ∙ ap (drop offset) (sym (take-take (offset + count) n xs below) ∙ ap (take (offset + count)) same ∙ take-take (offset + count) n ys below)
    ∙ drop-take offset count ys

part-whole : (n offset count : ℕ) (xs ys : List ℕ) → take n xs ≡ take n ys → offset + count ≤ n → n ≤ length xs → length (take count (drop offset ys)) ≡ count
part-whole n offset count xs ys same below enough =
    ap length (sym (part-same n offset count xs ys same below)) ∙ length-take-le count (drop offset xs) (omega (arith, length-drop offset xs, below, enough))

-- What the members keep stays readable.
pub stays-readable : (w : World) → Kept w → StaysReadable w
stays-readable w kept a member named offset count asked =
    let k = kept a member asked.answered asked.is_member asked.steady in
    let r = w.replicas member.0 a.block in
    record {
      takes = takes r.known named offset count a.stamp a.length asked.steady.sound asked.no_later asked.below k.reached k.there;
      there = part-same a.length offset count r.bytes _ k.bytes asked.below;
      all = part-whole a.length offset count r.bytes _ k.bytes asked.below k.enough;
    }

-- ---- at a book

refused-not : (x : Outcome) (e : Refusal) → IsTaken x → x ≡ Err e → ⊥
refused-not (Ok t) e ok is = cc
refused-not (Err d) e ok is = cc

module _ {F : Type 0} (f : files.Ghosts F) (old new : BookState F) where
  ends-with : (named : Stamp) (offset count : ℕ) (wanted bytes : List ℕ) (result : Result Receipt BookFault) → Gives (replica_of old) named offset count wanted
      → BookEnds f old new (replica_event.Other (event.Read named offset count)) result → IfOk result (λ _. ReadsBytes (f.files old.drawer) (replica_of old) offset count bytes)
      → EndsWith f old new wanted bytes result
  ends-with named offset count wanted bytes (Ok receipt) gives ends read = subst (λ (xs : List ℕ). IfSome (f.files old.drawer) (λ _. bytes ≡ xs)) gives.there read
  ends-with named offset count wanted bytes (Err (fault.Refused e receipt)) gives ends read = refused-not (transition (replica_of old).known (event.Read named offset count)) e gives.takes ends.refused
  ends-with named offset count wanted bytes (Err (fault.File receipt)) gives ends read = ends.rose
  ends-with named offset count wanted bytes (Err fault.Memory) gives ends read = tt

  -- a read of a steady member's book
  pub reads-answered : (w : World) (named : Stamp) (offset count : ℕ) (bytes : List ℕ) (result : Result Receipt BookFault) → StaysReadable w
      → BookEnds f old new (replica_event.Other (event.Read named offset count)) result → IfOk result (λ _. ReadsBytes (f.files old.drawer) (replica_of old) offset count bytes)
      → ReadsAnswered f w old new named offset count bytes result
  reads-answered w named offset count bytes result readable ends read a member asked is =
      ends-with named offset count (written_part w a offset count) bytes result
      (subst (λ r. Gives r named offset count (written_part w a offset count)) (sym is) (readable a member named offset count asked)) ends read
