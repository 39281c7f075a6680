-- A replica beside its bytes, and what each event makes of both.
use Rattle.std.specs.Prelude.{ℕ, ◌≡◌, ◌/◌, ◌-◌, nat_abs, List, [], ◌++◌, length, take, drop, Option, Some, None, IfSome}
use Rattle.hd_base.specs.declared.numbers.BlockId.{BlockId}
use Rattle.hd_base.specs.SumRules.{Rule, IsChunkSize}
use Rattle.packet_codec.specs.declared.packets.Packet.{Packet}
use Rattle.replica_core.specs.declared.records.ReplicaRecord.{ReplicaRecord}
use Rattle.replica_core.specs.declared.events.Event.{Event}
use Rattle.replica_core.specs.declared.events.Event.TheVariants as event
use Rattle.replica_core.specs.declared.events.Answer.{Answer}
use Rattle.replica_core.specs.Transitions.{state_after, answer_to, absent}
use Rattle.replica_core.specs.Sound.{Sound}
use Rattle.replica_core.specs.Views.{written_in, rule_in}
use Rattle.replica_model.specs.declared.events.ReplicaEvent.{ReplicaEvent}
use Rattle.replica_model.specs.declared.events.ReplicaEvent.TheVariants as replica_event
use Rattle.replica_model.specs.Sums.{bad_chunk}

-- a replica and the bytes that are written of it
pub record FullReplica : Type 0 where
  pub known : ReplicaRecord
  pub bytes : List ℕ

-- The record is sound, its rule has a chunk size, and it has just so many bytes.
pub record IsFull (r : FullReplica) : Type 0 where
  pub sound : Sound r.known
  pub rule : IfSome r.known.info (λ h. IsChunkSize h.sums.chunk)
  pub all : length r.bytes ≡ written_in r.known

-- An event of the record that isn't a packet, and whose rule, where it brings one, has a chunk size.
abbrev pub IsOther : Event → Type 0
IsOther (event.Create conn stamp sums) = IsChunkSize sums.chunk
IsOther (event.Temporary conn stamp sums) = IsChunkSize sums.chunk
IsOther (event.Packet conn seqno offset bytes sums last sync bad) = ⊥
IsOther _ = Unit {0}

-- A packet stands with its bytes.
abbrev pub IsWithBytes : ReplicaEvent → Type 0
IsWithBytes (replica_event.Packet conn p) = Unit {0}
IsWithBytes (replica_event.Other e) = IsOther e

-- the least chunk of a packet whose sum differs, under the replica's rule
abbrev pub bad_under : Option Rule → Packet → Option ℕ
bad_under None p = None
bad_under (Some r) p = bad_chunk r (nat_abs p.offset) p.body p.sums

-- The event of the record: of a packet the lengths, and the least chunk whose sum differs.
abbrev pub record_event : Option Rule → ReplicaEvent → Event
record_event rule (replica_event.Packet conn p) =
    event.Packet conn p.seqno p.offset (length p.body) (length p.sums / 4) p.last p.sync (bad_under rule p)
record_event rule (replica_event.Other e) = e

-- the same at this replica
abbrev pub event_at : FullReplica → ReplicaEvent → Event
event_at r e = record_event (rule_in r.known) e

-- the bytes of a packet past those that are written
abbrev pub brought : ℕ → ReplicaEvent → List ℕ
brought written (replica_event.Packet conn p) = drop (written - nat_abs p.offset) p.body
brought written (replica_event.Other e) = []

-- The replica after an event: its record by the transition, and as many bytes as that has written, of those before and those that a packet brings behind them.
abbrev pub row : FullReplica → ReplicaEvent → FullReplica
row r e = record {
  known = state_after r.known (event_at r e);
  bytes = take (written_in (state_after r.known (event_at r e))) (r.bytes ++ brought (length r.bytes) e);
}

-- what it is answered
abbrev pub row_answer : FullReplica → ReplicaEvent → Answer
row_answer r e = answer_to r.known (event_at r e)

-- a replica at whose files a call failed
abbrev pub broken : FullReplica → FullReplica
broken r = row r (replica_event.Other event.FileFault)

-- an absent replica
abbrev pub nothing : BlockId → FullReplica
nothing block = record { known = absent block; bytes = [] }
