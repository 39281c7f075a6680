-- Reads of bytes for which an hflush, hsync or close was answered.
use Rattle.std.specs.Prelude.{ℕ, ◌≡◌, ◌≤◌, ◌+◌, List, length, take, drop, IfSome, Result, Ok, Err}
use Rattle.hd_base.specs.Faults.{FaultsIncreased}
use Rattle.hd_base.specs.declared.files.Files as files
use Rattle.hd_base.specs.declared.numbers.NodeId.{NodeId}
use Rattle.hd_base.specs.declared.numbers.Receipt.{Receipt}
use Rattle.hd_base.specs.declared.numbers.Stamp.{Stamp}
use Rattle.replica_core.specs.declared.events.Event.TheVariants as event
use Rattle.replica_model.specs.Rows.{FullReplica}
use Rattle.replica_model.specs.declared.events.ReplicaEvent.TheVariants as replica_event
use Rattle.replica_files.specs.declared.book_state.BookState.{BookState}
use Rattle.replica_files.specs.declared.faults.BookFault.{BookFault}
use Rattle.replica_files.specs.declared.faults.BookFault.TheVariants as fault
use Rattle.replica_files.specs.Books.{replica_of, Takes}
use Rattle.world.specs.Parts.{Answered}
use Rattle.world.specs.Safe.{Has, Steady, written_under}
use Rattle.world.specs.Worlds.{World}

-- A read of answered bytes at a member of the answer that is steady since its stamp: it names no later stamp, and ends at or below the answered length.
pub record IsOfAnswered (w : World) (a : Answered) (member : NodeId) (named : Stamp) (offset count : ℕ) : Type 0 where
  pub answered : Has w.answered a
  pub is_member : Has a.members member
  pub steady : Steady w a.block a.stamp member.0
  pub no_later : named.0 ≤ a.stamp
  pub below : offset + count ≤ a.length

-- so many bytes from this place on, of those that the writer of the answer's session has written
abbrev pub written_part : World → Answered → ℕ → ℕ → List ℕ
written_part w a offset count = take count (drop offset (written_under w a.stamp))

-- The replica takes the read, and has these bytes there: as many as it asks for.
pub record Gives (r : FullReplica) (named : Stamp) (offset count : ℕ) (bytes : List ℕ) : Type 0 where
  pub takes : Takes r (replica_event.Other (event.Read named offset count))
  pub there : take count (drop offset r.bytes) ≡ bytes
  pub all : length bytes ≡ count

-- Each steady member's replica gives what was written, as far as it was answered.
abbrev pub StaysReadable : World → Type 0
StaysReadable w = (a : Answered) (member : NodeId) (named : Stamp) (offset count : ℕ) →
    IsOfAnswered w a member named offset count →
    Gives (w.replicas member.0 a.block) named offset count (written_part w a offset count)

-- A read of a book ends with these bytes, where files are observable; with a failed call on the files, whose count of faults rose; or with want of memory. It isn't refused.
abbrev pub EndsWith : {F : Type 0} → files.Ghosts F → BookState F → BookState F → List ℕ → List ℕ →
    Result Receipt BookFault → Type 0
EndsWith f old new wanted bytes (Ok receipt) = IfSome (f.files old.drawer) (λ _. bytes ≡ wanted)
EndsWith f old new wanted bytes (Err (fault.Refused refusal receipt)) = ⊥
EndsWith f old new wanted bytes (Err (fault.File receipt)) = FaultsIncreased (f.faults old.drawer) (f.faults new.drawer)
EndsWith f old new wanted bytes (Err fault.Memory) = Unit {0}

-- Where the book is that of a steady member's replica, a read of answered bytes ends with what was written, or so.
abbrev pub ReadsAnswered : {F : Type 0} → files.Ghosts F → World → BookState F → BookState F → Stamp → ℕ → ℕ →
    List ℕ → Result Receipt BookFault → Type 0
ReadsAnswered f w old new named offset count bytes result = (a : Answered) (member : NodeId) →
    IsOfAnswered w a member named offset count → replica_of old ≡ w.replicas member.0 a.block →
    EndsWith f old new (written_part w a offset count) bytes result
