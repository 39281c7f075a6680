-- Each packet of a read brings bytes that the node's replica had.
use Rattle.std.specs.Prelude.{ℕ, ◌≡◌, List, ◌++◌, length, take, drop, slice_get, Some, nat_abs}
use Rattle.op_headers.specs.declared.ops.ReadOp.{ReadOp}
use Rattle.packet_codec.specs.declared.packets.Packet.{Packet}
use Rattle.world.specs.declared.events.Event.{Event}
use Rattle.world.specs.Parts.{packet}
use Rattle.world.specs.Worlds.{start}
use Rattle.world.specs.Nodes.{node_of}
use Rattle.world.specs.Events.{run}
use Rattle.world_readings.specs.Results.{Asks}

-- After some of these events the node's replica of the block had the packet's bytes, where the packet says that they stand.
pub record WasHeld (nodes : ℕ) (events : List Event) (node block : ℕ) (p : Packet) : Type 0 where
  pub before : List Event
  pub rest : List Event
  pub joins : before ++ rest ≡ events
  pub there : take (length p.body) (drop (nat_abs p.offset) ((run (start nodes) before).replicas node block).bytes) ≡ p.body

-- So it is of each packet that was sent on the connection of a reader, of the block that this asks for.
abbrev pub AllHeld : Type 0
AllHeld = (nodes : ℕ) (events : List Event) (i c k : ℕ) (read : ReadOp) (p : Packet) →
    Asks (run (start nodes) events).past i c read → slice_get ((run (start nodes) events).ups c) k ≡ Some (packet p) →
    WasHeld nodes events (node_of (run (start nodes) events) c) read.block.block.0 p
