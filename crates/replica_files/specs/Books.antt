-- A replica's book: the replica that its history leads to, and the files that hold it.
use Rattle.std.specs.Prelude.{ℕ, ◌≡◌, ◌<◌, ◌^◌, false, List, [], ◌++◌, Option, Some, None, IfSome, IsOk}
use Rattle.hd_base.specs.Bytes.{IsBytes}
use Rattle.hd_base.specs.FileMaps.{FileMap, OnlyOf, AreNamesOf}
use Rattle.hd_base.specs.Calls.{Call, MakesCalls, StopsWithin, IsUnchanged}
use Rattle.hd_base.specs.declared.numbers.BlockId.{BlockId}
use Rattle.hd_base.specs.declared.files.Files as files
use Rattle.block_files.specs.BlockCalls.{calls_of}
use Rattle.replica_core.specs.declared.info.ReplicaInfo.{ReplicaInfo}
use Rattle.replica_core.specs.Transitions.{transition}
use Rattle.replica_model.specs.declared.events.ReplicaEvent.{ReplicaEvent}
use Rattle.replica_model.specs.Rows.{FullReplica, IsFull, event_at, row}
use Rattle.replica_model.specs.Histories.{replayed}
use Rattle.replica_model.specs.Plans.{Holds, plan, placement_of}
use Rattle.replica_calls.specs.CallLists.{remove_list}
use Rattle.replica_calls.specs.LastSums.{IsLastSum}
use Rattle.replica_files.specs.Breaks.{LeavesFiles}
use Rattle.replica_files.specs.declared.book_state.BookState.{BookState}

-- the replica that a book's history leads to
abbrev pub replica_of : {F : Type 0} → BookState F → FullReplica
replica_of s = replayed s.block s.history

-- This is the sum of the bytes in the last chunk of a replica that isn't broken.
abbrev pub HasLastSum : ℕ → FullReplica → Type 0
HasLastSum sum r = r.known.is_broken ≡ false → IfSome r.known.info (λ h. IsLastSum h.sums sum r.bytes)

-- The replica is of this block, and the files hold it; where they are observable, all are of its block, and the kept sum is that of its last chunk.
pub record IsHeld {F : Type 0} (f : files.Ghosts F) (drawer : F) (block : BlockId) (sum : ℕ) (r : FullReplica) : Type 0
  where
    pub fits : block.0 < 2 ^ 64
    pub of_block : r.known.block ≡ block
    pub full : IsFull r
    pub are_bytes : IsBytes r.bytes
    pub holds : Holds (f.files drawer) r
    pub only : OnlyOf block.0 (f.files drawer)
    pub last : IfSome (f.files drawer) (λ _. HasLastSum sum r)

-- The replica is the one that the history leads to, and the files hold it, or are what a failed call left of them.
pub record IsBookOf {F : Type 0} (f : files.Ghosts F) (s : BookState F) : Type 0 where
  pub known : s.replica ≡ (replica_of s).known
  pub held : IsHeld f s.drawer s.block s.last_sum (replica_of s)
  pub left : LeavesFiles f s.drawer s.whole (replica_of s)

-- The replica takes the event.
abbrev pub Takes : FullReplica → ReplicaEvent → Type 0
Takes r e = IsOk (transition r.known (event_at r e))

-- The calls of an event at a replica, where these other files of the block are removed before a new replica's are made.
abbrev pub event_calls : FullReplica → ReplicaEvent → List (List ℕ) → List Call
event_calls r e strays = remove_list strays ++ calls_of r.known.block.0 (plan r e) (placement_of r)

-- The files that are removed: all that are there, where a new replica is made, and else none.
abbrev pub AreStrays : Option FileMap → Option ReplicaInfo → Option ReplicaInfo → List (List ℕ) → Type 0
AreStrays files None (Some k) strays = IfSome files (λ m. AreNamesOf m strays)
AreStrays files None None strays = strays ≡ []
AreStrays files (Some h) next strays = strays ≡ []

-- The calls of an event were made.
pub record MakesEvent {F : Type 0} (f : files.Ghosts F) (old new : F) (r : FullReplica) (e : ReplicaEvent) : Type 0
  where
    pub strays : List (List ℕ)
    pub are : AreStrays (f.files old) r.known.info (row r e).known.info strays
    pub made : MakesCalls (f.files old) (f.files new) (f.log old) (f.log new) (event_calls r e strays)

-- One of the calls of an event failed, or something before the first of them.
pub data StopsEvent {F : Type 0} (f : files.Ghosts F) (old new : F) (r : FullReplica) (e : ReplicaEvent) : Type 0 where
  before_all : IsUnchanged (f.files old) (f.files new) (f.log old) (f.log new) → StopsEvent f old new r e
  amid : (strays : List (List ℕ)) → AreStrays (f.files old) r.known.info (row r e).known.info strays
      → StopsWithin (f.files old) (f.files new) (f.log old) (f.log new) (event_calls r e strays) →
      StopsEvent f old new r e
