-- What the events of readers make of the world, and what readers send and shut in them.
use Rattle.std.specs.Prelude.{◌≡◌, ℕ, ◌&&◌, Bool, true, false, List, [], ◌∷◌, Some, None}
use Rattle.hd_base.specs.declared.numbers.ConnId.{ConnId}
use Rattle.hd_base.specs.declared.numbers.NodeId.{NodeId}
use Rattle.hd_base.specs.declared.states.Status.TheVariants as status
use Rattle.op_headers.specs.declared.ops.Op.TheVariants as op
use Rattle.op_headers.specs.declared.ops.ReadOp.{ReadOp}
use Rattle.read_core.specs.declared.reading.ReadTurn.{ReadTurn}
use Rattle.read_core.specs.declared.reading.ReadTurn.TheVariants as turn
use Rattle.read_core.specs.Readings.{ReadingState, ReadTaken, take_from}
use Rattle.world_settling.specs.World.Event.{Event}
use Rattle.world_settling.specs.World.Event.TheVariants as event
use Rattle.world_settling.specs.World.OwnStep.TheVariants as own
use Rattle.world_settling.specs.World.Parts.{request, read_status, by_reader, no_reader, reads}
use Rattle.world_settling.specs.World.Worlds.{World, Change, Dial, apply}
use Rattle.world_settling.specs.World.Connections.{Next, up_taken, place_of}
use Rattle.world_settling.specs.World.Clients.{reader_dials, from_node_of, reader_turn, reader_takes}
use Rattle.world_settling.specs.World.Events.{outcome}
use Rattle.world_settling.specs.WorldNets.Changes.{Flush}
use Rattle.world_settling.specs.WorldNets.Dials.{DialsBy}
use Rattle.world_settling.specs.WorldNets.Drawn.{ComesUp}
use Rattle.world_settling.specs.WorldNets.Flushing.{upper_flushes}
use Rattle.world_settling.specs.WorldNets.Steps.{SendsBy}

-- EVENTS

-- a reader asks a node, and its dial is answered or isn't
abbrev pub asks_event : ℕ → NodeId → ReadOp → Bool → Event
asks_event line node read answered = event.Own (own.Reader line node read answered)

-- The reader that dialled the connection reads over it.
pub record HearsNode (w : World) (c line : ℕ) (s : ReadingState) : Type 0 where
  pub upper : (w.dialled c).upper ≡ by_reader line
  pub reader : w.readers line ≡ reads c s

-- a reader takes this from its connection
abbrev pub takes_next : World → ℕ → ℕ → ReadingState → Next → Change
takes_next w line c s x = reader_takes w line c (take_from s (from_node_of x))

-- The world after a reader took what stands next, and after a new reader asked a node.
pub record ReadersMake : Type 0 where
  pub hears : (w : World) (conn : ConnId) (line : ℕ) (s : ReadingState) (x : Next) → ComesUp w conn.0 x →
      HearsNode w conn.0 line s
      → outcome w (event.Up conn) ≡
      Some (apply (up_taken w conn.0 x) (takes_next (up_taken w conn.0 x) line conn.0 s x))
  pub asks : (w : World) (line : ℕ) (node : NodeId) (read : ReadOp) (answered : Bool) → w.readers line ≡ no_reader
      → outcome w (asks_event line node read answered) ≡
      Some (apply w (reader_dials w line node.0 read (answered && w.running node.0)))

-- WHAT IS SENT

-- what the end of a reader flushes that does this: CHECKSUM_OK, where all bytes are there; and it is shut where the
-- read has its result
abbrev pub turn_flushes : ℕ → ReadTurn → List Flush
turn_flushes c turn.Goes = []
turn_flushes c turn.Verified = upper_flushes (Some c) true (read_status status.ChecksumOk ∷ [])
turn_flushes c (turn.Fails why) = upper_flushes (Some c) true []

-- the dial of a reader, with its request
abbrev pub reader_dial : World → ℕ → NodeId → ReadOp → Dial
reader_dial w line node read = record {
  dialled = record { upper = by_reader line; from = None; to = place_of w node.0 };
  request = request (op.Read read);
}

-- What a reader sends and shuts: where it took something, where its dial was answered, and where it wasn't.
pub record ReadersSend : Type 0 where
  pub turns : (w : World) (line c : ℕ) (t : ReadTaken) (does : ReadTurn) →
      SendsBy w (reader_turn w line c t does) (turn_flushes c does)
  pub dials : (w : World) (line : ℕ) (node : NodeId) (read : ReadOp) →
      DialsBy w (reader_dials w line node.0 read true) (reader_dial w line node read) []
  pub unanswered : (w : World) (line : ℕ) (node : NodeId) (read : ReadOp) →
      SendsBy w (reader_dials w line node.0 read false) []
