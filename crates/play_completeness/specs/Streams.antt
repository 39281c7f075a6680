-- Packets on their way down a pipeline, and acks on their way up: what those above await is acked below and on its way
-- up, is pending below, or is on its way down; and what is on its way down is taken below.
use Rattle.std.specs.Prelude.{ℕ, ℤ, suc, zero, pos, negsuc, ◌≡◌, ◌++◌, ◌/◌, max, nat_abs, Bool, true, false, List, [], ◌∷◌, length, map, slice_get, Option, Some, None, Ok}
use Rattle.std.specs.Ordering.{int_eq}
use Rattle.hd_base.specs.SumRules.{Rule}
use Rattle.ack_codec.specs.declared.acks.Ack.{Ack}
use Rattle.packet_codec.specs.declared.packets.Packet.{Packet}
use Rattle.packet_stream.specs.Streams.{StreamState, packet_end}
use Rattle.replica_core.specs.declared.ack_queue.PendingPacket.{PendingPacket}
use Rattle.replica_core.specs.declared.extents.PacketExtent.{PacketExtent}
use Rattle.replica_core.specs.declared.records.ReplicaRecord.{ReplicaRecord}
use Rattle.replica_core.specs.declared.streams.Stream.{Stream}
use Rattle.replica_core.specs.Extents.{follows, pending_of}
use Rattle.replica_core.specs.Views.{written_in}
use Rattle.replica_model.specs.Sums.{bad_chunk}
use Rattle.writer_core.specs.declared.phases.Phase.{Phase}
use Rattle.writer_core.specs.declared.phases.Phase.TheVariants as phase
use Rattle.writer_core.specs.declared.records.WriterRecord.{WriterRecord}
use Rattle.world.specs.Parts.{Message, packet, ack}
use Rattle.world.specs.Safe.{Has}

-- MESSAGES

abbrev pub packets_in : List Message → List Packet
packets_in [] = []
packets_in (packet p ∷ ms) = p ∷ packets_in ms
packets_in (m ∷ ms) = packets_in ms

abbrev pub acks_in : List Message → List Ack
acks_in [] = []
acks_in (ack a ∷ ms) = a ∷ acks_in ms
acks_in (m ∷ ms) = acks_in ms

-- a packet as it is pending where it was taken
abbrev pub as_pending : Packet → PendingPacket
as_pending p = record { seqno = p.seqno; end = packet_end p; last = p.last; sync = p.sync }

-- WHAT IS AWAITED

-- the last packet of a block is the last of these
pub record LastBehind (awaited : List PendingPacket) : Type 0 where
  pub ends : (i : ℕ) (e : PendingPacket) → slice_get awaited i ≡ Some e → e.last ≡ true → suc i ≡ length awaited

-- the last packet of a block is among these
pub record HasLast (acked : List PendingPacket) : Type 0 where
  pub packet : PendingPacket
  pub there : Has acked packet
  pub last : packet.last ≡ true

-- What an upper end awaits: of the oldest the acks are on their way up, the others are pending below, or on their way
-- down. The lower end is over just where it has acked the last packet, and then that ack is on its way.
pub record Flows (awaited : List PendingPacket) (acks : List Ack) (pending : List PendingPacket) (packets : List Packet)
    (over : Bool) : Type 0 where
  pub acked : List PendingPacket
  pub are : awaited ≡ acked ++ (pending ++ map as_pending packets)
  pub numbers : map (λ (e : PendingPacket). e.seqno) acked ≡ map (λ (a : Ack). a.seqno) acks
  pub behind : LastBehind awaited
  pub over_then : HasLast acked → over ≡ true
  pub over_so : over ≡ true → HasLast acked

-- HOW FAR A STREAM HAS COME

-- The number of the last packet that was taken, if one was; whether it was the last one of its block; and how many
-- bytes are written.
pub record Reach : Type 0 where
  pub previous : Option ℤ
  pub over : Bool
  pub written : ℕ

-- nothing was taken yet, and so many bytes stand there
abbrev pub first_reach : ℕ → Reach
first_reach bytes = record { previous = None; over = false; written = bytes }

abbrev pub reach_after : Reach → Packet → Reach
reach_after r p = record { previous = Some p.seqno; over = p.last; written = max r.written (packet_end p) }

-- what a packet says to a replica with this rule
abbrev pub extent_of : Rule → Packet → PacketExtent
extent_of rule p = record {
  seqno = p.seqno;
  offset = p.offset;
  length = length p.body;
  sums = length p.sums / 4;
  last = p.last;
  sync = p.sync;
  bad = bad_chunk rule (nat_abs p.offset) p.body p.sums;
}

-- A packet is taken where a stream has come so far, and is then pending as it is.
pub record IsNext (rule : Rule) (r : Reach) (p : Packet) : Type 0 where
  pub number : follows r.previous p.seqno ≡ true
  pub real : int_eq p.seqno (negsuc 0) ≡ false
  pub before_last : r.over ≡ false
  pub taken : pending_of rule (extent_of rule p) r.written ≡ Ok (as_pending p)

-- These packets are taken one after the other, and lead from here to there.
abbrev pub Leads : Rule → Reach → List Packet → Reach → Type 0
Leads rule r [] s = r ≡ s
Leads rule r (p ∷ packets) s = IsNext rule r p × Leads rule (reach_after r p) packets s

-- THE ENDS

abbrev pub reach_under : Option Stream → ℕ → Reach
reach_under None bytes = first_reach bytes
reach_under (Some s) bytes = record { previous = s.previous; over = s.is_over; written = bytes }

-- how far the stream has come that is written at a replica
abbrev pub reach_in : ReplicaRecord → Reach
reach_in r = reach_under r.stream (written_in r)

-- the number before this one
abbrev pub number_before : ℕ → Option ℤ
number_before zero = None
number_before (suc n) = Some (pos n)

-- how far a writer's stream has come: once the last packet was formed, that has the number of the stream
abbrev pub reach_formed : Phase → StreamState → Reach
reach_formed phase.Closing s = record { previous = Some (pos s.seqno); over = true; written = s.sent }
reach_formed other s = record { previous = number_before s.seqno; over = false; written = s.sent }

abbrev pub reach_of : WriterRecord → Reach
reach_of x = reach_formed x.phase x.stream
