-- Laws of books.
use Rattle.std.specs.Prelude.{ℕ, ◌≡◌, ◌≤◌, false, List, length, take, Option, Some, IsSome, Result}
use Rattle.std.specs.List.{AllByRecursion}
use Rattle.hd_base.specs.FileMaps.{FileMap}
use Rattle.hd_base.specs.declared.files.Files as files
use Rattle.hd_base.specs.declared.numbers.Receipt.{Receipt}
use Rattle.hd_base.specs.declared.numbers.Stamp.{Stamp}
use Rattle.replica_core.specs.declared.events.Event.TheVariants as event
use Rattle.replica_core.specs.Views.{acked_in}
use Rattle.replica_model.specs.declared.events.ReplicaEvent.{ReplicaEvent}
use Rattle.replica_model.specs.declared.events.ReplicaEvent.TheVariants as replica_event
use Rattle.replica_model.specs.declared.histories.Entry.{Entry}
use Rattle.replica_model.specs.Rows.{FullReplica, IsFull, IsWithBytes, row}
use Rattle.replica_model.specs.Histories.{replay}
use Rattle.replica_files.specs.declared.book_state.BookState.{BookState}
use Rattle.replica_files.specs.declared.faults.BookFault.{BookFault}
use Rattle.replica_files.specs.Entries.{IsSame}
use Rattle.replica_files.specs.Books.{IsBookOf, replica_of}
use Rattle.replica_files.specs.Endings.{BookEnds}

-- an event that isn't the end of a block recovery
abbrev pub IsNoUpdate : ReplicaEvent → Type 0
IsNoUpdate (replica_event.Other (event.Update recovery bytes)) = ⊥
IsNoUpdate _ = Unit {0}

-- All bytes that were acked are still acked, and are the same.
pub record KeepsAcked (before after : FullReplica) : Type 0 where
  pub acked : acked_in before.known ≤ acked_in after.known
  pub bytes : take (acked_in before.known) after.bytes ≡ take (acked_in before.known) before.bytes

-- Any call of a book but the end of a block recovery keeps what is acked, however it ends.
abbrev pub CallsKeepAcked : {F : Type 0} → files.Ghosts F → Type 0
CallsKeepAcked {F} f = (old new : BookState F) (e : ReplicaEvent) (result : Result Receipt BookFault) →
    IsBookOf f old → IsNoUpdate e → BookEnds f old new e result → KeepsAcked (replica_of old) (replica_of new)

-- an entry that ends no block recovery; one in which a call on the files failed ended none
pub record EndsNoRecovery (entry : Entry) : Type 0 where
  pub with_bytes : IsWithBytes entry.event
  pub no_update : entry.failed ≡ false → IsNoUpdate entry.event

-- Any entries but the ends of block recoveries keep what is acked.
abbrev pub HistoriesKeepAcked : Type 0
HistoriesKeepAcked = (r : FullReplica) (entries : List Entry) → IsFull r → AllByRecursion EndsNoRecovery entries →
    KeepsAcked r (replay r entries)

-- The end of a block recovery leaves a front of the bytes.
abbrev pub CutsLeaveFronts : Type 0
CutsLeaveFronts = (r : FullReplica) (recovery : Stamp) (bytes : ℕ) → IsFull r →
    (row r (replica_event.Other (event.Update recovery bytes))).bytes
    ≡ take (length (row r (replica_event.Other (event.Update recovery bytes))).bytes) r.bytes

-- the same files, where both are observable
abbrev pub AreSameFiles : Option FileMap → Option FileMap → Type 0
AreSameFiles (Some m) (Some n) = m ≡ n
AreSameFiles _ _ = Unit {0}

-- a replica that is neither broken nor absent
pub record IsWhole (r : FullReplica) : Type 0 where
  pub there : IsSome r.known.info
  pub whole : r.known.is_broken ≡ false

-- Two books of one block with the same history have the same files.
abbrev pub HistoriesDetermineFiles : {F G : Type 0} → files.Ghosts F → files.Ghosts G → Type 0
HistoriesDetermineFiles {F} {G} f g = (s : BookState F) (t : BookState G) →
    IsBookOf f s → IsBookOf g t → s.block ≡ t.block → IsSame s.history t.history → IsWhole (replica_of s) →
    AreSameFiles (f.files s.drawer) (g.files t.drawer)
