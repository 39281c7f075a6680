-- The laws of books.
use Rattle.std.proofs.Common.{◌≡◌, ℕ, ◌≤◌, Bool, true, false, List, [], ◌∷◌, ◌++◌, length, take, append-nil, Option, Some, None, IsSome, Ok, Err, refl, sym, ap, subst, ◌∙◌, arith}
use Rattle.std.proofs.lemmas.List.{take-take, take-append-le}
use Rattle.hd_base.specs.FileMaps.{FileMap}
use Rattle.hd_base.specs.declared.files.Files as files
use Rattle.hd_base.specs.declared.numbers.Receipt.{Receipt}
use Rattle.replica_core.specs.declared.events.Event.TheVariants as event
use Rattle.replica_core.specs.declared.info.ReplicaInfo.{ReplicaInfo}
use Rattle.replica_core.specs.Views.{acked_in, written_in}
use Rattle.replica_core.specs.Transitions.{state_after}
use Rattle.replica_core.proofs.StepLemmas.{choice}
use Rattle.replica_core.proofs.SoundLemmas.{kept}
use Rattle.replica_core.proofs.TransitionLemmas.{acked_within}
use Rattle.replica_model.specs.declared.events.ReplicaEvent.{ReplicaEvent}
use Rattle.replica_model.specs.declared.events.ReplicaEvent.TheVariants as replica_event
use Rattle.replica_model.specs.declared.histories.Entry.{Entry}
use Rattle.replica_model.specs.Rows.{FullReplica, IsFull, event_at, brought, row, broken}
use Rattle.replica_model.specs.Histories.{begun, after_entry, replay}
use Rattle.replica_model.specs.Plans.{HoldsInfo, Holds}
use Rattle.replica_model.proofs.RowLemmas.{rows_keep_bytes}
use Rattle.replica_files.specs.declared.book_state.BookState.{BookState}
use Rattle.replica_files.specs.declared.faults.BookFault.TheVariants as fault
use Rattle.replica_files.specs.Entries.{IsSame}
use Rattle.replica_files.specs.Books.{replica_of}
use Rattle.replica_files.specs.Endings.{Notes}
use Rattle.replica_files.specs.Laws.{IsNoUpdate, KeepsAcked, EndsNoRecovery, HistoriesKeepAcked, CallsKeepAcked, CutsLeaveFronts, AreSameFiles, HistoriesDetermineFiles}
use Rattle.replica_files.proofs.AckedLemmas.{IsNoEnd, acked_grows}
use Rattle.replica_files.proofs.BookLemmas.{noted}

-- ---- what is acked

no_end : (r : FullReplica) (e : ReplicaEvent) → IsNoUpdate e → IsNoEnd (event_at r e)
no_end r (replica_event.Packet conn p) other = tt
no_end r (replica_event.Other (event.Create conn stamp sums)) other = tt
no_end r (replica_event.Other (event.Temporary conn stamp sums)) other = tt
no_end r (replica_event.Other (event.Append conn named new n)) other = tt
no_end r (replica_event.Other (event.AppendRecovery conn named new n)) other = tt
no_end r (replica_event.Other (event.StreamRecovery conn named new low high)) other = tt
no_end r (replica_event.Other (event.CloseRecovery named new n)) other = tt
no_end r (replica_event.Other (event.Packet conn seqno offset n sums last sync bad)) other = tt
no_end r (replica_event.Other (event.Ack conn seqno good)) other = tt
no_end r (replica_event.Other (event.Ended conn)) other = tt
no_end r (replica_event.Other (event.Init named recovery)) other = tt
no_end r (replica_event.Other (event.Update recovery n)) other = absurd other
no_end r (replica_event.Other (event.Read named offset n)) other = tt
no_end r (replica_event.Other (event.Give named offset n)) other = tt
no_end r (replica_event.Other event.FileFault) other = tt

-- a front of the bytes
front_stays : (bytes more : List ℕ) (acked written : ℕ) → acked ≤ written → acked ≤ length bytes → take acked (take written (bytes ++ more)) ≡ take acked bytes
front_stays bytes more acked written below within = take-take acked written (bytes ++ more) below ∙ take-append-le acked bytes more within

event_keeps : (r : FullReplica) (e : ReplicaEvent) → IsFull r → IsNoUpdate e → KeepsAcked r (row r e)
event_keeps r e full other =
    let grows = acked_grows r.known (event_at r e) full.sound (no_end r e other) in
    record {
      acked = grows;
      bytes = front_stays r.bytes (brought (length r.bytes) e) (acked_in r.known) (written_in (state_after r.known (event_at r e)))
          (omega (arith, grows, acked_within (state_after r.known (event_at r e)) (kept r.known (event_at r e) full.sound)))
          (omega (arith, full.all, acked_within r.known full.sound));
    }

entry_keeps : (r : FullReplica) (entry : Entry) → IsFull r → (entry.failed ≡ false → IsNoUpdate entry.event) → KeepsAcked r (after_entry r entry)
entry_keeps r entry full other =
    choice (KeepsAcked r) entry.failed (broken r) (row r entry.event) (λ _. event_keeps r (replica_event.Other event.FileFault) full tt) (λ whole. event_keeps r entry.event full (other whole))

self_keeps : (r : FullReplica) → KeepsAcked r r
self_keeps r = record { acked = omega arith; bytes = refl }

then_keeps : (r s t : FullReplica) → KeepsAcked r s → KeepsAcked s t → KeepsAcked r t
then_keeps r s t first next =
    let a = acked_in r.known in
    record {
      acked = omega (arith, first.acked, next.acked);
      bytes = sym (take-take a (acked_in s.known) t.bytes first.acked) ∙ ap (take a) next.bytes ∙ take-take a (acked_in s.known) s.bytes first.acked ∙ first.bytes;
    }

entry_full : (r : FullReplica) (entry : Entry) → IsFull r → EndsNoRecovery entry → IsFull (after_entry r entry)
entry_full r entry full other =
    choice IsFull entry.failed (broken r) (row r entry.event) (λ _. rows_keep_bytes r (replica_event.Other event.FileFault) full tt) (λ _. rows_keep_bytes r entry.event full other.with_bytes)

pub histories_keep_acked : HistoriesKeepAcked
histories_keep_acked r [] full all = self_keeps r
histories_keep_acked r (entry ∷ entries) full all =
    then_keeps r (after_entry r entry) (replay (after_entry r entry) entries) (entry_keeps r entry full all.0.no_update)
    (histories_keep_acked (after_entry r entry) entries (entry_full r entry full all.0) all.1)

-- ---- calls

-- the replica of a book of the same block and history
same_replica : {F G : Type 0} (s : BookState F) (t : BookState G) → s.block ≡ t.block → IsSame s.history t.history → replica_of t ≡ replica_of s
same_replica s t block same =
    ap (λ b. replay (begun b t.history.start) t.history.entries.items) (sym block)
    ∙ ap (λ x. replay (begun s.block x) t.history.entries.items) same.start
    ∙ ap (replay (begun s.block s.history.start)) same.entries

noted_keeps : {F : Type 0} (old new : BookState F) (e : ReplicaEvent) (failed : Bool) (receipt : Receipt) → IsFull (replica_of old) → IsNoUpdate e → Notes old new e failed receipt → KeepsAcked (replica_of old) (replica_of new)
noted_keeps old new e failed receipt full other n =
    subst (KeepsAcked (replica_of old)) (sym (noted old new e failed receipt n)) (entry_keeps (replica_of old) (record { event = e; failed = failed }) full (λ _. other))

pub calls_keep_acked : {F : Type 0} (f : files.Ghosts F) → CallsKeepAcked f
calls_keep_acked f old new e (Ok receipt) book other ends = noted_keeps old new e false receipt book.held.full other ends.noted
calls_keep_acked f old new e (Err (fault.Refused refusal receipt)) book other ends = noted_keeps old new e false receipt book.held.full other ends.noted
calls_keep_acked f old new e (Err (fault.File receipt)) book other ends = noted_keeps old new e true receipt book.held.full other ends.noted
calls_keep_acked f old new e (Err fault.Memory) book other ends =
    subst (KeepsAcked (replica_of old)) (sym (same_replica old new (sym ends.block) ends.history)) (self_keeps (replica_of old))

-- ---- the end of a block recovery

pub cuts_leave_fronts : CutsLeaveFronts
cuts_leave_fronts r recovery n full =
    let e = replica_event.Other (event.Update recovery n) in
    ap (take (written_in (row r e).known)) (append-nil r.bytes) ∙ sym (ap (λ k. take k r.bytes) (rows_keep_bytes r e full tt).all)

-- ---- the files

same_files : (o p : Option FileMap) (block : ℕ) (info : Option ReplicaInfo) (is_broken : Bool) (bytes : List ℕ) → IsSome info → is_broken ≡ false → HoldsInfo o block info is_broken bytes → HoldsInfo p block info is_broken bytes → AreSameFiles o p
same_files o p block None is_broken bytes there whole one other = absurd (cc)
same_files o p block (Some h) true bytes there whole one other = absurd (cc)
same_files None p block (Some h) false bytes there whole one other = tt
same_files (Some m) None block (Some h) false bytes there whole one other = tt
same_files (Some m) (Some n) block (Some h) false bytes there whole one other = one ∙ sym other

pub histories_determine_files : {F G : Type 0} (f : files.Ghosts F) (g : files.Ghosts G) → HistoriesDetermineFiles f g
histories_determine_files f g s t one other block same is =
    let r = replica_of s in
    same_files (f.files s.drawer) (g.files t.drawer) r.known.block.0 r.known.info r.known.is_broken r.bytes is.there is.whole one.held.holds
    (subst (Holds (g.files t.drawer)) (same_replica s t block same) other.held.holds)
