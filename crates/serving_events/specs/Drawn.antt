-- What the events of nodes that serve reads make of the world, and what they send and shut.
use Rattle.std.specs.Prelude.{◌≡◌, ℕ, Bool, true, false, List, [], ◌∷◌, Option, Some, None, Result, Ok, Err}
use Rattle.hd_base.specs.declared.numbers.ConnId.{ConnId}
use Rattle.op_headers.specs.declared.ops.Op.TheVariants as op
use Rattle.op_headers.specs.declared.ops.ReadOp.{ReadOp}
use Rattle.packet_codec.specs.declared.packets.Packet.{Packet}
use Rattle.replica_core.specs.declared.events.Event.{Event}
use Rattle.replica_model.specs.declared.events.ReplicaEvent.{ReplicaEvent}
use Rattle.replica_model.specs.declared.events.ReplicaEvent.TheVariants as replica_event
use Rattle.replica_model.specs.Rows.{FullReplica, broken}
use Rattle.request_refusals.specs.declared.refusals.RequestRefusal.{RequestRefusal}
use Rattle.request_refusals.specs.declared.refusals.RequestRefusal.TheVariants as refusal
use Rattle.visible_read.specs.ReadCore.Servings.{ServingState, Piece, read_at, read_event, refusing, next_call, piece_at}
use Rattle.visible_read.specs.Answers.{answering}
use Rattle.member_events.specs.World.Delivery.TheVariants as delivery
use Rattle.member_events.specs.World.Event.TheVariants as event
use Rattle.member_events.specs.World.Parts.{Message, request, packet, response, idle, serves}
use Rattle.member_events.specs.World.Worlds.{World, Change, apply}
use Rattle.member_events.specs.World.Connections.{Next, message, down_taken, is_served}
use Rattle.member_events.specs.World.Nodes.{closing, breaking, read_change, piece_change, replica_at}
use Rattle.member_events.specs.World.Events.{outcome}
use Rattle.member_events.specs.WorldNets.Drawn.{ComesDown}
use Rattle.member_events.specs.WorldNets.Flushing.{lower_flush}
use Rattle.member_events.specs.WorldNets.Steps.{SendsBy}

-- REQUESTS

-- what stood next where a request to read was taken
abbrev pub read_next : ReadOp → Next
read_next r = message (request (op.Read r))

-- the number of the block that is read
abbrev pub block_of : ReadOp → ℕ
block_of r = r.block.block.0

-- a request to read is answered as it is at the replica
abbrev pub answers_read : World → ℕ → ReadOp → Change
answers_read w c r = read_change w c (block_of r) (read_at r (replica_at w c (block_of r)))

-- the call of a request on the replica's files fails: the replica breaks, and this is answered
abbrev pub breaks_read : World → ℕ → ReadOp → Event → Change
breaks_read w c r e =
    breaking w c (block_of r) (broken (replica_at w c (block_of r))) (replica_event.Other e)
    (response (refusing refusal.File) ∷ [])

-- What the event makes of the world in which the lower end takes a request to read, and what it makes of it where the call
-- on the replica's files fails.
pub record RequestMakes (w : World) (conn : ConnId) (r : ReadOp) : Type 0 where
  pub answered : (answered : Bool) → outcome w (event.Down conn answered) ≡
      Some (apply (down_taken w conn.0 (read_next r)) (answers_read (down_taken w conn.0 (read_next r)) conn.0 r))
  pub faulted : (e : Event) → read_event r ≡ Ok e → outcome w (event.Fault (delivery.Down conn)) ≡
      Some (apply (down_taken w conn.0 (read_next r)) (breaks_read (down_taken w conn.0 (read_next r)) conn.0 r e))

abbrev pub RequestsMake : Type 0
RequestsMake = (w : World) (conn : ConnId) (r : ReadOp) → ComesDown w conn.0 (read_next r) → w.lowers conn.0 ≡ idle
    → RequestMakes w conn r

-- PACKETS

-- the next packet of a read, or its early end
abbrev pub sends_packet : World → ℕ → ℕ → ServingState → Change
sends_packet w c b s = piece_change w c b (piece_at s (replica_at w c b))

-- the call of a packet on the replica's files fails: the replica breaks, and nothing is sent
abbrev pub breaks_packet : World → ℕ → ℕ → Event → Change
breaks_packet w c b e = breaking w c b (broken (replica_at w c b)) (replica_event.Other e) []

pub record PacketMakes (w : World) (conn : ConnId) (b : ℕ) (s : ServingState) (e : Event) : Type 0 where
  pub sent : outcome w (event.Ready conn) ≡ Some (apply w (sends_packet w conn.0 b s))
  pub faulted : outcome w (event.Fault (delivery.Ready conn)) ≡ Some (apply w (breaks_packet w conn.0 b e))

abbrev pub PacketsMake : Type 0
PacketsMake = (w : World) (conn : ConnId) (b : ℕ) (s : ServingState) (e : Event) → is_served w conn.0 ≡ true
    → w.lowers conn.0 ≡ serves b s → next_call s ≡ Some e → PacketMakes w conn b s e

-- ENDS

-- A read that is served ends where its reader's status or end is taken.
abbrev pub EndsMake : Type 0
EndsMake = (w : World) (conn : ConnId) (answered : Bool) (x : Next) (b : ℕ) (s : ServingState) → ComesDown w conn.0 x
    → w.lowers conn.0 ≡ serves b s
    → outcome w (event.Down conn answered) ≡
    Some (apply (down_taken w conn.0 x) (closing (down_taken w conn.0 x) conn.0))

-- WHAT IS SENT

-- the request was refused
abbrev pub is_refused : Result ServingState RequestRefusal → Bool
is_refused (Ok s) = false
is_refused (Err why) = true

-- there is no packet
abbrev pub is_early : Option Packet → Bool
is_early None = true
is_early (Some p) = false

-- a packet, if there is one
abbrev pub packet_sent : Option Packet → List Message
packet_sent None = []
packet_sent (Some p) = packet p ∷ []

-- What the lower end of a read's connection flushes: the answer, a packet, or what is answered where the replica breaks.
pub record ReadSends (w : World) (c b : ℕ) : Type 0 where
  pub answers : (x : Result ServingState RequestRefusal) →
      SendsBy w (read_change w c b x) (lower_flush c (is_refused x) (response (answering x) ∷ []) ∷ [])
  pub sends : (p : Piece) →
      SendsBy w (piece_change w c b p) (lower_flush c (is_early p.packet) (packet_sent p.packet) ∷ [])
  pub breaks : (r : FullReplica) (e : ReplicaEvent) (ms : List Message) →
      SendsBy w (breaking w c b r e ms) (lower_flush c true ms ∷ [])

abbrev pub ReadsSend : Type 0
ReadsSend = (w : World) (c b : ℕ) → ReadSends w c b
