-- What each event makes of a replica, and what it is answered. The checks of a transition stand in the order in which they are tried.
use Rattle.std.specs.Prelude.{ℕ, ℤ, negsuc, ◌==◌, ◌<◌, ◌≤◌, not, if◌then◌else◌, Bool, true, false, List, [], ◌∷◌, ◌++◌, drop, slice_get, Option, Some, None, IfSome, option_map, is_none, Result, Ok, Err}
use Rattle.std.specs.Ordering.{int_eq}
use Rattle.hd_base.specs.declared.states.ReplicaState.{ReplicaState}
use Rattle.hd_base.specs.declared.states.ReplicaState.TheVariants as state
use Rattle.hd_base.specs.declared.numbers.BlockId.{BlockId}
use Rattle.hd_base.specs.declared.numbers.ConnId.{ConnId}
use Rattle.hd_base.specs.declared.numbers.Stamp.{Stamp}
use Rattle.hd_base.specs.SumRules.{Rule}
use Rattle.replica_core.specs.declared.records.ReplicaRecord.{ReplicaRecord}
use Rattle.replica_core.specs.declared.ack_queue.PendingPacket.{PendingPacket}
use Rattle.replica_core.specs.declared.events.Answer.{Answer}
use Rattle.replica_core.specs.declared.events.Answer.TheVariants as answer
use Rattle.replica_core.specs.declared.events.Event.{Event}
use Rattle.replica_core.specs.declared.events.Event.TheVariants as event
use Rattle.replica_core.specs.declared.info.ReplicaInfo.{ReplicaInfo}
use Rattle.replica_core.specs.declared.extents.PacketExtent.{PacketExtent}
use Rattle.replica_core.specs.declared.refusals.Refusal.{Refusal}
use Rattle.replica_core.specs.declared.refusals.Refusal.TheVariants as refusal
use Rattle.replica_core.specs.declared.streams.Stream.{Stream}
use Rattle.hd_base.specs.Results.{◌>>=◌}
use Rattle.replica_core.specs.Refusals.{check}
use Rattle.replica_core.specs.Info.{state_of, visible_of, is_writable, settled_at, reopen, recover_setup, recover_stream, begin_recovery, end_recovery, readable, given, extend_written, advance_acked, close_stream}
use Rattle.replica_core.specs.Extents.{fresh, stream_after, heartbeat_of, pending_of}

-- a replica after an event that was taken, and the answer
pub record Taken : Type 0 where
  pub replica : ReplicaRecord
  pub answer : Answer

abbrev pub Outcome : Type 0
Outcome = Result Taken Refusal

-- taken, and answered Done
abbrev pub done : ReplicaRecord → Outcome
done c = Ok (record { replica = c; answer = answer.Done })

-- the replica afterwards: as before, where the event was refused
abbrev pub record_after : ReplicaRecord → Outcome → ReplicaRecord
record_after c (Ok taken) = taken.replica
record_after c (Err e) = c

-- the answer of an event that was taken
abbrev pub reply : Outcome → Result Answer Refusal
reply (Ok taken) = Ok taken.answer
reply (Err e) = Err e

-- the answer
abbrev pub answer_of : Result Answer Refusal → Answer
answer_of (Ok a) = a
answer_of (Err e) = answer.Refused e

-- what is there, or the refusal of an absent replica
abbrev pub there : Option ReplicaInfo → Result ReplicaInfo Refusal
there None = Err refusal.NoReplica
there (Some h) = Ok h

-- what a replica holds that is neither broken nor absent
abbrev pub present : ReplicaRecord → Result ReplicaInfo Refusal
present c = check (not c.is_broken) refusal.Broken (there c.info)

-- It holds this, and this connection writes it from now on, or nobody does. Nothing is pending then, and no seqno is expected.
abbrev pub set_writer : ReplicaRecord → ReplicaInfo → Option ConnId → ReplicaRecord
set_writer c h writer = record c { info = Some h; stream = option_map fresh writer; pending = [] }

-- what a step makes of what is there, under this writer
abbrev pub with_writer : ReplicaRecord → Option ConnId → Result ReplicaInfo Refusal → Outcome
with_writer c writer next = next >>= (λ h. done (set_writer c h writer))

-- a new replica in this state, which this connection writes
abbrev pub new_transition : ReplicaRecord → ReplicaState → ConnId → Stamp → Rule → Outcome
new_transition c original conn stamp sums =
    check (not c.is_broken) refusal.Broken
    (check (is_none c.info) refusal.Exists
    (done (set_writer c (settled_at original stamp sums 0) (Some conn))))

abbrev pub append_transition : ReplicaRecord → ConnId → Stamp → Stamp → ℕ → Outcome
append_transition c conn named new bytes = present c >>= (λ h. with_writer c (Some conn) (reopen h named new bytes))

abbrev pub append_recovery_transition : ReplicaRecord → ConnId → Stamp → Stamp → ℕ → Outcome
append_recovery_transition c conn named new bytes = present c >>=
    (λ h. with_writer c (Some conn) (recover_setup h named new bytes state.Rbw))

abbrev pub stream_recovery_transition : ReplicaRecord → ConnId → Stamp → Stamp → ℕ → ℕ → Outcome
stream_recovery_transition c conn named new low high = present c >>=
    (λ h. with_writer c (Some conn) (recover_stream h named new low high))

abbrev pub close_recovery_transition : ReplicaRecord → Stamp → Stamp → ℕ → Outcome
close_recovery_transition c named new bytes = present c >>=
    (λ h. with_writer c None (recover_setup h named new bytes state.Finalized))

-- the stream, where this connection writes
abbrev pub stream_by : Option Stream → ConnId → Result Stream Refusal
stream_by None conn = Err refusal.NotWriter
stream_by (Some s) conn = check (s.conn.0 == conn.0) refusal.NotWriter (Ok s)

-- a replica with one pending packet more
abbrev pub enqueue : ReplicaRecord → PendingPacket → ReplicaRecord
enqueue c e = record c { pending = c.pending ++ e ∷ [] }

-- a replica with one pending packet more, whose bytes are written up to its end
abbrev pub extend : ReplicaRecord → ReplicaInfo → Stream → PendingPacket → ReplicaRecord
extend c h s e = enqueue (record c { info = Some (extend_written h e.end); stream = Some s }) e

-- A packet of the writing stream: a heartbeat, which changes neither bytes nor the expected seqno, or bytes of the block.
unfoldable pub extent_transition : ReplicaRecord → ReplicaInfo → Stream → PacketExtent → Outcome
extent_transition c h s p =
    if int_eq p.seqno (negsuc 0)
    then heartbeat_of p >>= (λ e. done (enqueue c e))
    else stream_after s p >>= (λ t. pending_of h.sums p h.written >>= (λ e. done (extend c h t e)))

abbrev pub packet_transition : ReplicaRecord → ConnId → PacketExtent → Outcome
packet_transition c conn p =
    present c >>= (λ h. check (is_writable (state_of h)) refusal.NotWriter (stream_by c.stream conn >>=
    (λ s. extent_transition c h s p)))

-- A replica whose oldest pending packet was acked. A good ack raises what is acked; after that of the last packet nobody writes, a TEMPORARY replica is RBW and an RBW one FINALIZED.
abbrev pub acknowledge : ReplicaRecord → ReplicaInfo → PendingPacket → Bool → ReplicaRecord
acknowledge c h e false = record c { pending = drop 1 c.pending }
acknowledge c h e true =
    if e.last
    then set_writer c (close_stream (advance_acked h e.end)) None
    else record c { info = Some (advance_acked h e.end); pending = drop 1 c.pending }

-- the oldest pending packet, which is to have this seqno
abbrev pub oldest_of : Option PendingPacket → ℤ → Result PendingPacket Refusal
oldest_of None seqno = Err (refusal.Seqno None seqno)
oldest_of (Some e) seqno = check (int_eq e.seqno seqno) (refusal.Seqno (Some e.seqno) seqno) (Ok e)

abbrev pub ack_transition : ReplicaRecord → ConnId → ℤ → Bool → Outcome
ack_transition c conn seqno good = present c >>=
    (λ h. stream_by c.stream conn >>=
    (λ s. oldest_of (slice_get c.pending 0) seqno >>= (λ e. done (acknowledge c h e good))))

-- this connection writes
abbrev pub is_written_by : Option Stream → ConnId → Bool
is_written_by None conn = false
is_written_by (Some s) conn = s.conn.0 == conn.0

-- nobody writes, where this connection wrote
abbrev pub end_connection : ReplicaRecord → ConnId → ReplicaRecord
end_connection c conn = if is_written_by c.stream conn then record c { stream = None; pending = [] } else c

-- the recovery that begins learns the original state, the stamp and the length
abbrev pub init_transition : ReplicaRecord → Stamp → Stamp → Outcome
init_transition c named recovery =
    present c >>= (λ h. begin_recovery h named recovery >>=
    (λ k. Ok (record { replica = set_writer c k None; answer = answer.Info h.original h.stamp h.written })))

abbrev pub update_transition : ReplicaRecord → Stamp → ℕ → Outcome
update_transition c recovery bytes = present c >>= (λ h. with_writer c None (end_recovery h h.recovery recovery bytes))

abbrev pub read_transition : ReplicaRecord → Stamp → ℕ → ℕ → Outcome
read_transition c named offset bytes =
    present c >>= (λ h. readable h (visible_of h) named offset bytes >>=
    (λ visible. Ok (record { replica = c; answer = answer.Visible visible })))

abbrev pub give_transition : ReplicaRecord → Stamp → ℕ → ℕ → Outcome
give_transition c named offset bytes =
    present c >>= (λ h. given h named offset bytes >>=
    (λ visible. Ok (record { replica = c; answer = answer.Visible visible })))

-- broken, and nobody writes
abbrev pub mark_broken : ReplicaRecord → ReplicaRecord
mark_broken c = record c { is_broken = true; stream = None; pending = [] }

-- the transition of each event
unfoldable pub transition : ReplicaRecord → Event → Outcome
transition c (event.Create conn stamp sums) = new_transition c state.Rbw conn stamp sums
transition c (event.Temporary conn stamp sums) = new_transition c state.Temporary conn stamp sums
transition c (event.Append conn named new bytes) = append_transition c conn named new bytes
transition c (event.AppendRecovery conn named new bytes) = append_recovery_transition c conn named new bytes
transition c (event.StreamRecovery conn named new low high) = stream_recovery_transition c conn named new low high
transition c (event.CloseRecovery named new bytes) = close_recovery_transition c named new bytes
transition c (event.Packet conn seqno offset bytes sums last sync bad) =
    packet_transition c conn (record {
      seqno = seqno;
      offset = offset;
      length = bytes;
      sums = sums;
      last = last;
      sync = sync;
      bad = bad;
    })
transition c (event.Ack conn seqno good) = ack_transition c conn seqno good
transition c (event.Ended conn) = done (end_connection c conn)
transition c (event.Init named recovery) = init_transition c named recovery
transition c (event.Update recovery bytes) = update_transition c recovery bytes
transition c (event.Read named offset bytes) = read_transition c named offset bytes
transition c (event.Give named offset bytes) = give_transition c named offset bytes
transition c event.FileFault = done (mark_broken c)

-- a replica after an event
abbrev pub state_after : ReplicaRecord → Event → ReplicaRecord
state_after c e = record_after c (transition c e)

-- what a replica answers an event
abbrev pub answer_to : ReplicaRecord → Event → Answer
answer_to c e = answer_of (reply (transition c e))

-- a replica after events
abbrev pub run : ReplicaRecord → List Event → ReplicaRecord
run c [] = c
run c (e ∷ es) = run (state_after c e) es

-- a replica that is absent
abbrev pub absent : BlockId → ReplicaRecord
absent block = record { block = block; info = None; stream = None; pending = []; is_broken = false }

-- a replica that a scan found: all its bytes are acked, and nobody writes it
abbrev pub found : BlockId → ReplicaInfo → ReplicaRecord
found block h = record { block = block; info = Some h; stream = None; pending = []; is_broken = false }

-- An event whose numbers fit: a packet's bad chunk has one of its sums, and a recovery id isn't 0.
abbrev pub IsLawful : Event → Type 0
IsLawful (event.Packet conn seqno offset bytes sums last sync bad) = IfSome bad (λ chunk. chunk < sums)
IsLawful (event.Init named recovery) = 1 ≤ recovery.0
IsLawful _ = Unit {0}
