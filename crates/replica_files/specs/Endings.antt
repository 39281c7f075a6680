-- How a call of a book ends.
use Rattle.std.specs.Prelude.{ℕ, ◌≡◌, [], Bool, true, false, Result, Ok, Err}
use Rattle.hd_base.specs.Faults.{FaultsIncreased}
use Rattle.hd_base.specs.Calls.{IsUnchanged}
use Rattle.hd_base.specs.declared.numbers.BlockId.{BlockId}
use Rattle.hd_base.specs.declared.numbers.Receipt.{Receipt}
use Rattle.hd_base.specs.declared.files.Files as files
use Rattle.hd_base.specs.declared.files.FileError.{FileError}
use Rattle.replica_core.specs.declared.refusals.Refusal.{Refusal}
use Rattle.hd_base.specs.declared.numbers.Stamp.{Stamp}
use Rattle.hd_base.specs.declared.states.ReplicaState.{ReplicaState}
use Rattle.replica_core.specs.declared.events.Answer.{Answer}
use Rattle.replica_core.specs.declared.events.Answer.TheVariants as answer
use Rattle.replica_core.specs.Transitions.{transition}
use Rattle.replica_model.specs.declared.events.ReplicaEvent.{ReplicaEvent}
use Rattle.replica_model.specs.declared.histories.Start.TheVariants as start
use Rattle.replica_model.specs.Rows.{event_at, row_answer}
use Rattle.replica_files.specs.Entries.{IsSame, HasEntry}
use Rattle.replica_files.specs.Books.{replica_of, Takes, MakesEvent, StopsEvent}
use Rattle.replica_files.specs.declared.book_state.BookState.{BookState}
use Rattle.replica_files.specs.declared.faults.BookFault.{BookFault}
use Rattle.replica_files.specs.declared.faults.BookFault.TheVariants as fault
use Rattle.replica_files.specs.declared.book_state.Taken.{Taken}

-- The book of the same block has one entry more, with this receipt.
pub record Notes {F : Type 0} (old new : BookState F) (e : ReplicaEvent) (failed : Bool) (receipt : Receipt) : Type 0
  where
    pub block : new.block ≡ old.block
    pub entry : HasEntry old.history new.history e failed receipt.index
    pub named : receipt.block ≡ old.block

-- The event was taken, and its calls were made.
pub record EndsTaken {F : Type 0} (f : files.Ghosts F) (old new : BookState F) (e : ReplicaEvent) (taken : Taken) :
    Type 0 where
  pub takes : Takes (replica_of old) e
  pub answer : taken.answer ≡ row_answer (replica_of old) e
  pub noted : Notes old new e false taken.receipt
  pub made : MakesEvent f old.drawer new.drawer (replica_of old) e

-- The event was refused, and no file has changed.
pub record EndsRefused {F : Type 0} (f : files.Ghosts F) (old new : BookState F) (e : ReplicaEvent) (refusal : Refusal)
    (receipt : Receipt) : Type 0 where
  pub refused : transition (replica_of old).known (event_at (replica_of old) e) ≡ Err refusal
  pub noted : Notes old new e false receipt
  pub same : IsUnchanged (f.files old.drawer) (f.files new.drawer) (f.log old.drawer) (f.log new.drawer)

-- A call on the files of a replica that wasn't broken failed: it is broken, and what was done is a part of the event's calls.
pub record EndsFailed {F : Type 0} (f : files.Ghosts F) (old new : BookState F) (e : ReplicaEvent) (receipt : Receipt)
    : Type 0 where
  pub whole : (replica_of old).known.is_broken ≡ false
  pub noted : Notes old new e true receipt
  pub stopped : StopsEvent f old.drawer new.drawer (replica_of old) e
  pub rose : FaultsIncreased (f.faults old.drawer) (f.faults new.drawer)

-- Memory ran out: block, replica and history are the same, and no file has changed.
pub record EndsUnmade {F : Type 0} (f : files.Ghosts F) (old new : BookState F) : Type 0 where
  pub block : new.block ≡ old.block
  pub replica : new.replica ≡ old.replica
  pub history : IsSame old.history new.history
  pub same : IsUnchanged (f.files old.drawer) (f.files new.drawer) (f.log old.drawer) (f.log new.drawer)

-- How a call of a book ends.
abbrev pub CallEnds : {F : Type 0} → files.Ghosts F → BookState F → BookState F → ReplicaEvent →
    Result Taken BookFault → Type 0
CallEnds f old new e (Ok taken) = EndsTaken f old new e taken
CallEnds f old new e (Err (fault.Refused refusal receipt)) = EndsRefused f old new e refusal receipt
CallEnds f old new e (Err (fault.File receipt)) = EndsFailed f old new e receipt
CallEnds f old new e (Err fault.Memory) = EndsUnmade f old new

-- How an event that was taken ends once its calls on the files were made, or one of them failed.
abbrev pub Finishes : {F : Type 0} → BookState F → BookState F → ReplicaEvent → Answer → Result ℕ FileError →
    Result Taken BookFault → Type 0
Finishes old new e answer (Ok sum) (Ok taken) = Notes old new e false taken.receipt × (taken.answer ≡ answer)
Finishes old new e answer (Err cause) (Err (fault.File receipt)) = Notes old new e true receipt
Finishes old new e answer made result = ⊥

-- How an event ends for which something failed before any of its calls.
abbrev pub Fails : {F : Type 0} → files.Ghosts F → BookState F → BookState F → ReplicaEvent → BookFault → Type 0
Fails f old new e (fault.File receipt) = Notes old new e true receipt × (new.drawer ≡ old.drawer)
Fails f old new e other = ⊥

-- How an event that was taken ends.
abbrev pub TakenEnds : {F : Type 0} → files.Ghosts F → BookState F → BookState F → ReplicaEvent →
    Result Taken BookFault → Type 0
TakenEnds f old new e (Ok taken) = EndsTaken f old new e taken
TakenEnds f old new e (Err (fault.File receipt)) = EndsFailed f old new e receipt
TakenEnds f old new e (Err other) = ⊥

-- How a refused event ends.
abbrev pub IsRefusal : {F : Type 0} → files.Ghosts F → BookState F → BookState F → ReplicaEvent → BookFault → Type 0
IsRefusal f old new e (fault.Refused refusal receipt) = EndsRefused f old new e refusal receipt
IsRefusal f old new e other = ⊥

-- How a public call of a book ends.
abbrev pub BookEnds : {F : Type 0} → files.Ghosts F → BookState F → BookState F → ReplicaEvent →
    Result Receipt BookFault → Type 0
BookEnds f old new e (Ok receipt) =
    EndsTaken f old new e (record { answer = row_answer (replica_of old) e; receipt = receipt })
BookEnds f old new e (Err why) = CallEnds f old new e (Err why)

-- the receipt of what was taken
abbrev pub IsReceiptOf : Result Taken BookFault → Result Receipt BookFault → Type 0
IsReceiptOf (Ok taken) result = result ≡ Ok taken.receipt
IsReceiptOf (Err why) result = result ≡ Err why

-- a book of an absent replica without entries
pub record IsNew {F : Type 0} (s : BookState F) (block : BlockId) (drawer : F) : Type 0 where
  pub of_block : s.block ≡ block
  pub with_drawer : s.drawer ≡ drawer
  pub start : s.history.start ≡ start.Absent
  pub entries : s.history.entries.items ≡ []

-- How the beginning of a recovery ends, which answers state, stamp and length.
abbrev pub InitEnds : {F : Type 0} → files.Ghosts F → BookState F → BookState F → ReplicaEvent →
    Result ((ReplicaState × Stamp × ℕ) × Receipt) BookFault → Type 0
InitEnds f old new e (Ok x) = EndsTaken f old new e (record { answer = answer.Info x.0.0 x.0.1 x.0.2; receipt = x.1 })
InitEnds f old new e (Err why) = CallEnds f old new e (Err why)

-- A book is as it was: the same replica and files, and each call that follows ends as from the book before.
pub record StaysBook {F : Type 0} (f : files.Ghosts F) (old new : BookState F) : Type 0 where
  pub replica : replica_of new ≡ replica_of old
  pub files : f.files new.drawer ≡ f.files old.drawer
  pub ends : (next : BookState F) (e : ReplicaEvent) (result : Result Receipt BookFault) →
      BookEnds f new next e result → BookEnds f old next e result
