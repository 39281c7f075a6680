-- What a read makes of a replica and of its book, and which bytes there are of it.
use Rattle.std.proofs.Common.{◌≡◌, ◌≤◌, ◌+◌, ◌-◌, ◌^◌, ◌&&◌, ℕ, nat_le, Bool, true, false, not, List, [], ◌++◌, length, take, drop, Option, Some, None, IfSome, Result, Ok, Err, refl, sym, ap, ◌∙◌, arith}
use Rattle.std.specs.Prelude.{IsOk}
use Rattle.std.proofs.Math.Seq.{take-append_seam}
use Rattle.std.proofs.lemmas.Bool.Decides.{nat_tests}
use Rattle.std.proofs.lemmas.List.{length-take-le, length-drop}
use Rattle.hd_base.specs.Results.{◌>>=◌}
use Rattle.hd_base.specs.declared.files.Files as files
use Rattle.hd_base.specs.declared.numbers.Receipt.{Receipt}
use Rattle.hd_base.specs.declared.numbers.Stamp.{Stamp}
use Rattle.hd_base.specs.declared.states.ReplicaState.{ReplicaState}
use Rattle.hd_base.specs.declared.states.ReplicaState.TheVariants as state
use Rattle.replica_core.specs.declared.events.Answer.TheVariants as answer
use Rattle.replica_core.specs.declared.events.Event.TheVariants as event
use Rattle.replica_core.specs.declared.info.ReplicaInfo.{ReplicaInfo}
use Rattle.replica_core.specs.declared.records.ReplicaRecord.{ReplicaRecord}
use Rattle.replica_core.specs.declared.refusals.Refusal.{Refusal}
use Rattle.replica_core.specs.declared.refusals.Refusal.TheVariants as core_refusal
use Rattle.replica_core.specs.Info.{visible_of, visible_under, readable}
use Rattle.replica_core.specs.Refusals.{check}
use Rattle.replica_core.specs.Sound.{IsConsistent}
use Rattle.replica_core.specs.Transitions.{Outcome, there, transition, record_after, state_after}
use Rattle.replica_core.specs.Views.{written_in, written_at}
use Rattle.replica_model.specs.declared.events.ReplicaEvent.TheVariants as replica_event
use Rattle.replica_model.specs.Rows.{FullReplica, IsFull, row, broken}
use Rattle.member_events.specs.ReplicaFiles.BookState.{BookState}
use Rattle.member_events.specs.ReplicaFiles.BookFault.{BookFault}
use Rattle.member_events.specs.ReplicaFiles.BookFault.TheVariants as fault
use Rattle.member_events.specs.ReplicaFiles.Books.{replica_of, Takes}
use Rattle.member_events.specs.ReplicaFiles.Endings.{BookEnds}
use Rattle.member_events.proofs.ReplicaFiles.BookLemmas.{noted}

-- A READ LEAVES THE REPLICA

seen_same : (c : ReplicaRecord) (x : Result ℕ Refusal) → record_after c (x >>= (λ u. Ok (record { replica = c; answer = answer.Visible u }))) ≡ c
seen_same c (Ok u) = refl
seen_same c (Err e) = refl

present_same : (c : ReplicaRecord) (named : Stamp) (offset n : ℕ) (broken : Bool) (i : Option ReplicaInfo)
    → record_after c (check (not broken) core_refusal.Broken (there i) >>= (λ h. readable h (visible_of h) named offset n >>= (λ u. Ok (record { replica = c; answer = answer.Visible u })))) ≡ c
present_same c named offset n true i = refl
present_same c named offset n false None = refl
present_same c named offset n false (Some h) = seen_same c (readable h (visible_of h) named offset n)

read_same : (c : ReplicaRecord) (named : Stamp) (offset n : ℕ) → state_after c (event.Read named offset n) ≡ c
unfolding transition
read_same c named offset n = present_same c named offset n c.is_broken c.info

row_same : (r : FullReplica) (named : Stamp) (offset n : ℕ) → IsFull r → row r (replica_event.Other (event.Read named offset n)) ≡ r
row_same r named offset n full =
    ap (λ (k : ReplicaRecord). record { known = k; bytes = take (written_in k) (r.bytes ++ []) }) (read_same r.known named offset n)
    ∙ ap (λ (b : List ℕ). record { known = r.known; bytes = b }) (ap (λ (m : ℕ). take m (r.bytes ++ [])) (sym full.all) ∙ take-append_seam r.bytes [])

broken_so : (r : FullReplica) → (broken r).known.is_broken ≡ true
unfolding transition
broken_so r = refl

-- A call on a book that didn't fail on its files, and found memory.
abbrev pub IsAnswered : Result Receipt BookFault → Type 0
IsAnswered (Ok receipt) = Unit {0}
IsAnswered (Err (fault.Refused why receipt)) = Unit {0}
IsAnswered (Err other) = ⊥

module _ {F : Type 0} (f : files.Ghosts F) (old new : BookState F) (named : Stamp) (offset n : ℕ) where
  -- A read that was answered leaves the replica.
  pub answered_same : (booked : Result Receipt BookFault) → IsFull (replica_of old) → BookEnds f old new (replica_event.Other (event.Read named offset n)) booked → IsAnswered booked → replica_of new ≡ replica_of old
  answered_same (Ok receipt) full ends h = noted old new (replica_event.Other (event.Read named offset n)) false receipt ends.noted ∙ row_same (replica_of old) named offset n full
  answered_same (Err (fault.Refused why receipt)) full ends h = noted old new (replica_event.Other (event.Read named offset n)) false receipt ends.noted ∙ row_same (replica_of old) named offset n full
  answered_same (Err (fault.File receipt)) full ends h = absurd h
  answered_same (Err fault.Memory) full ends h = absurd h

  -- One whose call on the files failed breaks it.
  pub failed_breaks : (receipt : Receipt) → BookEnds f old new (replica_event.Other (event.Read named offset n)) (Err (fault.File receipt)) → replica_of new ≡ broken (replica_of old)
  failed_breaks receipt ends = noted old new (replica_event.Other (event.Read named offset n)) true receipt ends.noted

-- WHETHER IT BROKE

none_breaks : (a b : Bool) → b ≡ a → (b && not a) ≡ false
none_breaks true true h = refl
none_breaks true false h = refl
none_breaks false true h = cc
none_breaks false false h = refl

one_breaks : (a b : Bool) → a ≡ false → b ≡ true → (b && not a) ≡ true
one_breaks a b h k = rw (h, k) refl

module _ {F : Type 0} (f : files.Ghosts F) (old new : BookState F) (named : Stamp) (offset n : ℕ) (before : old.replica ≡ (replica_of old).known) (after : new.replica ≡ (replica_of new).known) where
  pub answered_whole : replica_of new ≡ replica_of old → (new.replica.is_broken && not old.replica.is_broken) ≡ false
  answered_whole same = none_breaks old.replica.is_broken new.replica.is_broken
      (ap (λ (c : ReplicaRecord). c.is_broken) (after ∙ (ap (λ (r : FullReplica). r.known) same ∙ sym before)))

  pub failed_broke : (receipt : Receipt) → BookEnds f old new (replica_event.Other (event.Read named offset n)) (Err (fault.File receipt)) → (new.replica.is_broken && not old.replica.is_broken) ≡ true
  failed_broke receipt ends = one_breaks old.replica.is_broken new.replica.is_broken (ap (λ (c : ReplicaRecord). c.is_broken) before ∙ ends.whole)
      (ap (λ (c : ReplicaRecord). c.is_broken) (after ∙ ap (λ (r : FullReplica). r.known) (failed_breaks f old new named offset n receipt ends)) ∙ broken_so (replica_of old))

-- WHICH BYTES THERE ARE

abbrev IsTaken : Outcome → Type 0
IsTaken x = IsOk x

written_below : (at : ReplicaState) (written acked v : ℕ) → acked ≤ written → visible_under at written acked ≡ Some v → v ≤ written
written_below state.Finalized written acked v h e = let same : written ≡ v = cc in omega arith
written_below state.Rbw written acked v h e = let same : acked ≡ v = cc in omega arith
written_below state.Temporary written acked v h e = cc
written_below state.Rwr written acked v h e = cc
written_below state.Rur written acked v h e = cc

readable_within : (h : ReplicaInfo) (v : ℕ) (c : ReplicaRecord) (named : Stamp) (offset n : ℕ) → IsTaken (readable h (Some v) named offset n >>= (λ u. Ok (record { replica = c; answer = answer.Visible u }))) → offset + n ≤ v
unfolding readable
readable_within h v c named offset n ok = go (nat_le named.0 h.stamp.0) (nat_le (offset + n) v) refl ok
  where
    go : (a b : Bool) → nat_le (offset + n) v ≡ b → IsTaken (check a (core_refusal.Stale h.stamp named (record { 0 = 2 ^ 64 - 1 })) (check b (core_refusal.OutOfRange v) (Ok v)) >>= (λ u. Ok (record { replica = c; answer = answer.Visible u }))) → offset + n ≤ v
    go true true e k = grind (arith, nat_tests)
    go true false e k = cc
    go false b e k = cc

hidden_read : (h : ReplicaInfo) (c : ReplicaRecord) (named : Stamp) (offset n : ℕ) → IsTaken (readable h None named offset n >>= (λ u. Ok (record { replica = c; answer = answer.Visible u }))) → ⊥
unfolding readable
hidden_read h c named offset n ok = cc

info_within : (h : ReplicaInfo) (c : ReplicaRecord) (v : Option ℕ) (named : Stamp) (offset n : ℕ) → IsConsistent h → visible_of h ≡ v → IsTaken (readable h v named offset n >>= (λ u. Ok (record { replica = c; answer = answer.Visible u }))) → offset + n ≤ h.written
info_within h c None named offset n sound e ok = absurd (hidden_read h c named offset n ok)
info_within h c (Some v) named offset n sound e ok =
    let below : v ≤ h.written = written_below h.original h.written h.acked v sound.acked e in
    let within : offset + n ≤ v = readable_within h v c named offset n ok in
    omega arith

present_within : (c : ReplicaRecord) (named : Stamp) (offset n : ℕ) (broken : Bool) (i : Option ReplicaInfo) → IfSome i IsConsistent
    → IsTaken (check (not broken) core_refusal.Broken (there i) >>= (λ h. readable h (visible_of h) named offset n >>= (λ u. Ok (record { replica = c; answer = answer.Visible u })))) → offset + n ≤ written_at i
present_within c named offset n true i sound ok = cc
present_within c named offset n false None sound ok = cc
present_within c named offset n false (Some h) sound ok = info_within h c (visible_of h) named offset n sound refl ok

read_within : (c : ReplicaRecord) (named : Stamp) (offset n : ℕ) → IfSome c.info IsConsistent → IsTaken (transition c (event.Read named offset n)) → offset + n ≤ written_in c
unfolding transition
read_within c named offset n sound ok = present_within c named offset n c.is_broken c.info sound ok

-- A replica that takes a read has all bytes that it asks for.
pub all_there : (r : FullReplica) (named : Stamp) (offset n : ℕ) → IsFull r → Takes r (replica_event.Other (event.Read named offset n)) → length (take n (drop offset r.bytes)) ≡ n
all_there r named offset n full takes =
    let within : offset + n ≤ written_in r.known = read_within r.known named offset n full.sound.info takes in
    let all : length r.bytes ≡ written_in r.known = full.all in
    length-take-le n (drop offset r.bytes) (omega (arith, length-drop offset r.bytes, within, all))
