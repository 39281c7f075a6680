-- Laws of replicas, in the words of a write pipeline.
use Rattle.std.specs.Prelude.{ℕ, ℤ, pos, negsuc, ◌≡◌, ◌≢◌, ◌≤◌, ◌+◌, max, Option, Some, None, IfOk, IsErr}
use Rattle.hd_base.specs.declared.numbers.ConnId.{ConnId}
use Rattle.hd_base.specs.declared.numbers.Stamp.{Stamp}
use Rattle.replica_core.specs.declared.records.ReplicaRecord.{ReplicaRecord}
use Rattle.replica_core.specs.declared.events.Event.{Event}
use Rattle.replica_core.specs.declared.events.Event.TheVariants as event
use Rattle.replica_core.specs.Transitions.{transition}
use Rattle.replica_core.specs.Views.{written_in, acked_in, writer_in}

-- No more is acked than is written.
abbrev pub AckedIsWritten : ReplicaRecord → Type 0
AckedIsWritten c = acked_in c ≤ written_in c

-- Bytes that begin at or before the end of the written bytes, which then end where they did, or where these end.
pub record Adjoins (before after : ℕ) (offset : ℤ) (bytes : ℕ) : Type 0 where
  pub start : ℕ
  pub is : offset ≡ pos start
  pub near : start ≤ before
  pub reach : after ≡ max before (start + bytes)

-- A packet that was taken, and is no heartbeat, leaves no gap.
abbrev pub LeavesNoGap : ReplicaRecord → Event → Type 0
LeavesNoGap c (event.Packet conn seqno offset bytes sums last sync bad) =
    seqno ≢ negsuc 0 → IfOk (transition c (event.Packet conn seqno offset bytes sums last sync bad))
    (λ t. Adjoins (written_in c) (written_in t.replica) offset bytes)
LeavesNoGap c _ = Unit {0}

-- the connection on whose stream an event comes
abbrev pub stream_conn : Event → Option ConnId
stream_conn (event.Packet conn seqno offset bytes sums last sync bad) = Some conn
stream_conn (event.Ack conn seqno good) = Some conn
stream_conn (event.Ended conn) = Some conn
stream_conn _ = None

-- a packet of the connection that writes
abbrev pub IsWritersPacket : ReplicaRecord → Event → Type 0
IsWritersPacket c (event.Packet conn seqno offset bytes sums last sync bad) = writer_in c ≡ Some conn
IsWritersPacket c _ = ⊥

-- no read is answered
abbrev pub RefusesReads : ReplicaRecord → Type 0
RefusesReads c = (named : Stamp) (offset bytes : ℕ) → IsErr (transition c (event.Read named offset bytes))
