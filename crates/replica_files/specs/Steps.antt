-- What stands between the parts of a book's calls.
use Rattle.std.specs.Prelude.{ℕ, ◌≡◌, ◌<◌, ◌≤◌, false, length, List, Option, None, Result, IfOk, IsErr}
use Rattle.hd_base.specs.declared.files.Files as files
use Rattle.hd_base.specs.declared.files.FileError.{FileError}
use Rattle.replica_core.specs.declared.info.ReplicaInfo.{ReplicaInfo}
use Rattle.replica_core.specs.declared.events.Answer.{Answer}
use Rattle.replica_core.specs.declared.records.ReplicaRecord.{ReplicaRecord}
use Rattle.replica_core.specs.declared.refusals.Refusal.{Refusal}
use Rattle.replica_core.specs.Transitions.{reply, transition, IsLawful}
use Rattle.replica_core.specs.declared.ack_queue.TheConstants.{MAX_PENDING}
use Rattle.replica_model.specs.declared.events.ReplicaEvent.{ReplicaEvent}
use Rattle.replica_model.specs.declared.events.ReplicaEvent.TheVariants as replica_event
use Rattle.replica_model.specs.Rows.{IsWithBytes, event_at, row, row_answer, broken}
use Rattle.replica_core.specs.declared.events.Event.{Event}
use Rattle.replica_calls.specs.Performed.{KeepsAll}
use Rattle.replica_files.specs.Entries.{IsSame}
use Rattle.replica_files.specs.Events.{IsSettling, IsMadeBy}
use Rattle.replica_files.specs.Carried.{HasRoomFor, IsToMake}
use Rattle.replica_files.specs.Breaks.{IsLeft, LeavesFiles}
use Rattle.replica_files.specs.Books.{replica_of, IsHeld, Takes}
use Rattle.replica_files.specs.declared.book_state.BookState.{BookState}
use Rattle.replica_files.specs.declared.book_state.Prior.{Prior}

-- The numbers of an event that isn't a packet fit.
abbrev pub IsLawfulEvent : ReplicaEvent → Type 0
IsLawfulEvent (replica_event.Packet conn p) = Unit {0}
IsLawfulEvent (replica_event.Other e) = IsLawful e

-- A packet finds a place among the pending ones.
abbrev pub HasPlace : ReplicaRecord → ReplicaEvent → Type 0
HasPlace c (replica_event.Packet conn p) = length c.pending < MAX_PENDING
HasPlace c (replica_event.Other e) = Unit {0}

-- The replica may be given the event.
pub record IsFit (c : ReplicaRecord) (e : ReplicaEvent) : Type 0 where
  pub with_bytes : IsWithBytes e
  pub lawful : IsLawfulEvent e
  pub place : HasPlace c e

-- Block, files and kept sum are as they were, and the replica too.
pub record KeepsFiles {F : Type 0} (old new : BookState F) : Type 0 where
  pub drawer : new.drawer ≡ old.drawer
  pub replica : new.replica ≡ old.replica
  pub last_sum : new.last_sum ≡ old.last_sum
  pub whole : new.whole ≡ old.whole

-- Memory was taken: the book is the same, with at least the room that its files had.
pub record IsPrepared {F : Type 0} (f : files.Ghosts F) (old new : BookState F) : Type 0 where
  pub block : new.block ≡ old.block
  pub replica : new.replica ≡ old.replica
  pub last_sum : new.last_sum ≡ old.last_sum
  pub whole : new.whole ≡ old.whole
  pub history : IsSame old.history new.history
  pub drawer : KeepsAll f old.drawer new.drawer
  pub below : f.faults old.drawer ≤ f.faults new.drawer

-- All but the replica is as it was.
pub record KeepsBook {F : Type 0} (old new : BookState F) : Type 0 where
  pub block : new.block ≡ old.block
  pub drawer : new.drawer ≡ old.drawer
  pub last_sum : new.last_sum ≡ old.last_sum
  pub history : new.history ≡ old.history
  pub whole : new.whole ≡ old.whole

-- The replica has met an event that has no entry yet, and this is its answer.
pub record IsStepped {F : Type 0} (old new : BookState F) (e : ReplicaEvent) (result : Result Answer Refusal) : Type 0
  where
    pub kept : KeepsBook old new
    pub known : new.replica ≡ (row (replica_of old) e).known
    pub answered : result ≡ reply (transition (replica_of old).known (event_at (replica_of old) e))

-- An event that was taken has no entry yet; its calls on the files were made, with the sum of the last chunk then, or one of them failed. `before` is what was held before the event.
pub record IsToNote {F : Type 0} (f : files.Ghosts F) (s : BookState F) (e : ReplicaEvent)
    (before : Option ReplicaInfo) (made : Result ℕ FileError) : Type 0 where
  pub known : s.replica ≡ (row (replica_of s) e).known
  pub of_block : s.replica.block ≡ s.block
  pub before_is : before ≡ (replica_of s).known.info
  pub done : IfOk made (λ sum. IsHeld f s.drawer s.block sum (row (replica_of s) e))
  pub failed : IsErr made → IsHeld f s.drawer s.block s.last_sum (broken (replica_of s))
  pub still : IfOk made (λ _. LeavesFiles f s.drawer s.whole (row (replica_of s) e))
  pub left : IsErr made → IsLeft f s.drawer false (broken (replica_of s))

-- The replica has taken an event that settles what it held, and no call on the files is made yet.
pub record IsAmid {F : Type 0} (f : files.Ghosts F) (s : BookState F) (e : ReplicaEvent) (prior : Prior)
    (answer : Answer) (buffer : ℕ) : Type 0 where
  pub settled : Event
  pub is : e ≡ replica_event.Other settled
  pub settling : IsSettling settled
  pub takes : Takes (replica_of s) e
  pub answered : answer ≡ row_answer (replica_of s) e
  pub known : s.replica ≡ (row (replica_of s) e).known
  pub broken_is : prior.is_broken ≡ (replica_of s).known.is_broken
  pub before_is : prior.info ≡ (replica_of s).known.info
  pub held : IsHeld f s.drawer s.block s.last_sum (replica_of s)
  pub left : LeavesFiles f s.drawer s.whole (replica_of s)
  pub room : HasRoomFor (f.room s.drawer) s.block settled prior.info buffer

-- The replica has taken an event that makes it, and no call on the files is made yet.
pub record IsAmidMaking {F : Type 0} (f : files.Ghosts F) (s : BookState F) (e : ReplicaEvent) (prior : Prior)
    (answer : Answer) (k : ReplicaInfo) (strays : List (List ℕ)) : Type 0 where
  pub making : Event
  pub is : e ≡ replica_event.Other making
  pub made_by : IsMadeBy making k
  pub takes : Takes (replica_of s) e
  pub answered : answer ≡ row_answer (replica_of s) e
  pub known : s.replica ≡ (row (replica_of s) e).known
  pub before_is : prior.info ≡ (replica_of s).known.info
  pub held : IsHeld f s.drawer s.block s.last_sum (replica_of s)
  pub to_make : (replica_of s).known.info ≡ None → IsToMake f s.drawer s.block k strays

-- All but the drawer is as it was.
pub record KeepsRest {F : Type 0} (old new : BookState F) : Type 0 where
  pub block : new.block ≡ old.block
  pub replica : new.replica ≡ old.replica
  pub last_sum : new.last_sum ≡ old.last_sum
  pub history : new.history ≡ old.history
  pub whole : new.whole ≡ old.whole

-- Block, replica, kept sum and history are as they were.
pub record KeepsReplica {F : Type 0} (old new : BookState F) : Type 0 where
  pub block : new.block ≡ old.block
  pub replica : new.replica ≡ old.replica
  pub last_sum : new.last_sum ≡ old.last_sum
  pub history : new.history ≡ old.history
