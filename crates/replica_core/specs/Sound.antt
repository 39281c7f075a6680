-- What is true of every replica that events make.
use Rattle.std.specs.Prelude.{ℕ, ◌≡◌, ◌≤◌, Bool, true, false, List, [], Option, Some, None, IfSome, option_map}
use Rattle.std.specs.List.{AllByRecursion}
use Rattle.hd_base.specs.declared.states.ReplicaState.{ReplicaState}
use Rattle.hd_base.specs.declared.states.ReplicaState.TheVariants as state
use Rattle.replica_core.specs.declared.records.ReplicaRecord.{ReplicaRecord}
use Rattle.replica_core.specs.declared.ack_queue.PendingPacket.{PendingPacket}
use Rattle.replica_core.specs.declared.info.ReplicaInfo.{ReplicaInfo}
use Rattle.replica_core.specs.declared.streams.Stream.{Stream}
use Rattle.replica_core.specs.Info.{is_writable}
use Rattle.replica_core.specs.Views.{state_in, written_in}

-- FINALIZED or RWR: all that is written is settled
abbrev pub is_settled : ReplicaState → Bool
is_settled state.Finalized = true
is_settled state.Rwr = true
is_settled _ = false

-- No more is acked than is written, and as much where all is settled.
pub record IsConsistent (h : ReplicaInfo) : Type 0 where
  pub acked : h.acked ≤ h.written
  pub settled : is_settled h.original ≡ true → h.acked ≡ h.written

-- What is pending is written; the last packet ends where the written bytes end.
pub record IsPending (written : ℕ) (e : PendingPacket) : Type 0 where
  pub within : e.end ≤ written
  pub last : e.last ≡ true → e.end ≡ written

pub record IsNotLast (e : PendingPacket) : Type 0 where
  pub not_last : e.last ≡ false

-- A stream of which the last packet wasn't taken has none pending that is the last.
pub record IsStream (pending : List PendingPacket) (s : Stream) : Type 0 where
  pub open_yet : s.is_over ≡ false → AllByRecursion IsNotLast pending

-- There is a replica in a state in which a connection may write.
abbrev pub IsWritable : Option ReplicaState → Type 0
IsWritable at = option_map is_writable at ≡ Some true

pub record Sound (c : ReplicaRecord) : Type 0 where
  pub info : IfSome c.info IsConsistent
  pub pending : AllByRecursion (IsPending (written_in c)) c.pending
  pub stream : IfSome c.stream (IsStream c.pending)
  -- only an RBW or TEMPORARY replica that isn't broken is written
  pub writing : IfSome c.stream (λ _. IsWritable (state_in c))
  pub sound : IfSome c.stream (λ _. c.is_broken ≡ false)
  -- where nobody writes, nothing is pending
  pub quiet : c.stream ≡ None → c.pending ≡ []
