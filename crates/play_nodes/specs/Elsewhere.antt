-- Connections whose lower ends are kept elsewhere: those of readers and primaries.
use Rattle.std.specs.Prelude.{◌≡◌, ◌≤◌, ◌<◌, ◌+◌, ℕ, suc, Bool, true, false, List, [], ◌∷◌, ◌++◌, slice_get, unwrap_or, Some, None, IsSome, Result, Ok, Err}
use Rattle.hd_base.specs.declared.files.Files as files
use Rattle.hd_base.specs.declared.links.LinkIn as link_in
use Rattle.hd_base.specs.declared.links.LinkOut as link_out
use Rattle.hd_base.specs.declared.numbers.BlockId.{BlockId}
use Rattle.hd_base.specs.declared.numbers.ConnId.{ConnId}
use Rattle.hd_base.specs.declared.numbers.NodeId.{NodeId}
use Rattle.member_events.specs.ReplicaFiles.BookState.{BookState}
use Rattle.member_events.specs.ReplicaFiles.Books.{replica_of}
use Rattle.road_traffic.specs.Showing.{Net}
use Rattle.play_model.specs.World.Delivery.TheVariants as delivery
use Rattle.play_model.specs.World.Event.{Event}
use Rattle.play_model.specs.World.Event.TheVariants as event
use Rattle.play_model.specs.World.Parts.{by_writer, by_member, by_reader, by_primary, idle}
use Rattle.play_model.specs.World.Worlds.{World}
use Rattle.play_model.specs.World.Nodes.{node_of}
use Rattle.play_model.specs.World.Primaries.{numbered}
use Rattle.play_model.specs.World.Events.{happens, run}
use Rattle.member_events.specs.WorldNets.Nets.{is_over}
use Rattle.world_orders.specs.Orders.{Ordered}
use Rattle.member_events.specs.Showing.{OthersStay}
use Rattle.play_model.specs.declared.dues.Due.TheVariants as due
use Rattle.play_model.specs.Dues.{Queues, due_events}
use Rattle.play_nodes.specs.declared.connections.Connection.{Connection}
use Rattle.play_nodes.specs.declared.connections.Lower.TheVariants as lower
use Rattle.play_nodes.specs.declared.connections.Upper.{Upper}
use Rattle.play_nodes.specs.declared.connections.Upper.TheVariants as upper
use Rattle.play_nodes.specs.declared.faults.NodesFault.{NodesFault}
use Rattle.play_nodes.specs.declared.faults.NodesFault.TheVariants as fault
use Rattle.play_nodes.specs.declared.nodes.Nodes.{Nodes}
use Rattle.play_nodes.specs.Frames.{IsKept}
use Rattle.play_nodes.specs.Places.{book_at}
use Rattle.play_nodes.specs.Showing.{OriginShows, is_pipeline, IsOfPipeline, NodesShow}

-- WHAT A READER DIALS

-- the connection that was dialled so, whose lower end is kept elsewhere
abbrev pub made_elsewhere : {I O : Type 0} → Upper → NodeId → Connection I O
made_elsewhere u node = record { upper = u; node = node; lower = lower.Elsewhere; mirror = None }

-- It stands behind the others, and all else is as it was.
pub record StandsBehind {F I O : Type 0} (u : Upper) (node : NodeId) (old new : Nodes F I O) : Type 0 where
  pub connections : new.connections.items ≡ old.connections.items ++ made_elsewhere u node ∷ []
  pub same : new ≡ record old { connections = new.connections }

-- So it does, or memory ran out.
abbrev pub IsBehind : {F I O : Type 0} → Upper → NodeId → Nodes F I O → Nodes F I O → Result (Unit {0}) NodesFault →
    Type 0
IsBehind u node old new (Ok t) = StandsBehind u node old new
IsBehind u node old new (Err why) = why ≡ fault.Memory

-- A reader dialled a node; nothing was taken there by the lower end.
pub record IsReads (v : World) (reader : ℕ) (node : NodeId) (c : ℕ) : Type 0 where
  pub upper : (v.dialled c).upper ≡ by_reader reader
  pub node_is : (v.dialled c).to.node ≡ node.0
  pub idle_is : v.lowers c ≡ idle

-- With the connection that was dialled the nodes show the world after.
abbrev pub ReadShows : {F I O : Type 0} → link_in.Ghosts I → link_out.Ghosts O → ℕ → NodeId → Nodes F I O →
    Nodes F I O → Result (Unit {0}) NodesFault → Type 0
ReadShows i o reader node old new (Ok u) =
    (w : World) (net : Net) (v : World) (made : Net) → IsKept i o w net v made old →
    v.next_conn ≡ w.next_conn + 1 → IsReads v reader node w.next_conn
    → NodesShow i o v made new
ReadShows i o reader node old new (Err why) = why ≡ fault.Memory

-- WHAT A PRIMARY DIALS

-- the dial at this place was answered
abbrev pub is_answered : List Bool → ℕ → Bool
is_answered answers place = unwrap_or (slice_get answers place) false

-- how many dials of these members were answered
abbrev pub answered_of : List NodeId → List Bool → ℕ
answered_of (n ∷ ns) (true ∷ answers) = suc (answered_of ns answers)
answered_of (n ∷ ns) (false ∷ answers) = answered_of ns answers
answered_of members answers = 0

-- the connections that a primary at a node dialled, from the member at this place on: one for each dial that was answered
abbrev pub led_conns : {I O : Type 0} → ℕ → NodeId → ℕ → List NodeId → List Bool → List (Connection I O)
led_conns primary at_node place (n ∷ ns) (true ∷ answers) =
    made_elsewhere (upper.Primary primary place at_node) n ∷ led_conns primary at_node (place + 1) ns answers
led_conns primary at_node place (n ∷ ns) (false ∷ answers) = led_conns primary at_node (place + 1) ns answers
led_conns primary at_node place members answers = []

-- They stand behind the others, and all else is as it was.
pub record StandBehind {F I O : Type 0} (more : List (Connection I O)) (old new : Nodes F I O) : Type 0 where
  pub connections : new.connections.items ≡ old.connections.items ++ more
  pub same : new ≡ record old { connections = new.connections }

-- So they do, or memory ran out.
abbrev pub AreBehind : {F I O : Type 0} → List (Connection I O) → Nodes F I O → Nodes F I O →
    Result (Unit {0}) NodesFault → Type 0
AreBehind more old new (Ok t) = StandBehind more old new
AreBehind more old new (Err why) = why ≡ fault.Memory

-- A primary at a node dialled this node, the member at a place; nothing was taken there by the lower end.
pub record IsLeads (v : World) (primary : ℕ) (at_node : NodeId) (place : ℕ) (node : NodeId) (c : ℕ) : Type 0 where
  pub origin : OriginShows (v.dialled c).from (upper.Primary primary place at_node)
  pub upper : (v.dialled c).upper ≡ by_primary primary place
  pub node_is : (v.dialled c).to.node ≡ node.0
  pub idle_is : v.lowers c ≡ idle

-- It dialled these members, of which these have answered, in their order; nothing else was dialled.
pub record AreLed (w v : World) (primary : ℕ) (at_node : NodeId) (members : List NodeId) (answers : List Bool)
    : Type 0 where
  pub next : v.next_conn ≡ w.next_conn + answered_of members answers
  pub each : (place c : ℕ) (node : NodeId) → slice_get members place ≡ Some node →
      slice_get (numbered w.next_conn answers) place ≡ Some (Some c)
      → IsLeads v primary at_node place node c

-- With the connections that were dialled the nodes show the world after.
abbrev pub LedShows : {F I O : Type 0} → link_in.Ghosts I → link_out.Ghosts O → ℕ → NodeId → List NodeId → List Bool →
    Nodes F I O → Nodes F I O → Result (Unit {0}) NodesFault → Type 0
LedShows i o primary at_node members answers old new (Ok u) =
    (w : World) (net : Net) (v : World) (made : Net) → IsKept i o w net v made old →
    AreLed w v primary at_node members answers
    → NodesShow i o v made new
LedShows i o primary at_node members answers old new (Err why) = why ≡ fault.Memory

-- WHAT THE NODES SHOW OF A LOWER END THAT ACTS ELSEWHERE

-- All but one lower end, and one replica at its node, stay as they are; nothing is dialled, and no upper end has taken the
-- end.
pub record KeepsOthers (w v : World) (c b : ℕ) : Type 0 where
  pub nodes : v.nodes ≡ w.nodes
  pub conns : v.next_conn ≡ w.next_conn
  pub dialled : (d : ℕ) → v.dialled d ≡ w.dialled d
  pub running : (n : ℕ) → v.running n ≡ w.running n
  pub lives : (n : ℕ) → v.lives n ≡ w.lives n
  pub lowers : (d : ℕ) → (d ≡ c → ⊥) → v.lowers d ≡ w.lowers d
  pub replicas : (n k : ℕ) → (n ≡ node_of w c → k ≡ b → ⊥) → v.replicas n k ≡ w.replicas n k
  pub over : (d : ℕ) → is_over v d false ≡ is_over w d false

-- Books of one node alone have changed, and all of it show the world: there is one for each block.
pub record NodeShows {F I O : Type 0} (v : World) (node : ℕ) (old new : Nodes F I O) : Type 0 where
  pub blocks : new.blocks.items ≡ old.blocks.items
  pub connections : new.connections.items ≡ old.connections.items
  pub others : (n place : ℕ) → (n ≡ node → ⊥) → book_at new.nodes.items n place ≡ book_at old.nodes.items n place
  pub each : (place : ℕ) (block : BlockId) (book : BookState F) → slice_get new.blocks.items place ≡ Some block →
      book_at new.nodes.items node place ≡ Some book
      → replica_of book ≡ v.replicas node block.0
  pub all : (place : ℕ) (block : BlockId) → slice_get new.blocks.items place ≡ Some block →
      IsSome (book_at new.nodes.items node place)

-- An event of a lower end: it takes what stands next or acts without a message, and a call on files fails in it or doesn't.
abbrev pub IsOfLowerEnd : Event → Type 0
IsOfLowerEnd (event.Down c answered) = Unit {0}
IsOfLowerEnd (event.Ready c) = Unit {0}
IsOfLowerEnd (event.Fault (delivery.Down c)) = Unit {0}
IsOfLowerEnd (event.Fault (delivery.Ready c)) = Unit {0}
IsOfLowerEnd other = ⊥

-- No upper end takes the end in it.
abbrev pub UpperEndsStay : Type 0
UpperEndsStay = (w : World) (e : Event) → IsOfLowerEnd e → (d : ℕ) → is_over (happens w e) d false ≡ is_over w d false

-- The lower end of a connection that is none of a pipeline acted, with books of its node. Messages come in order before it
-- and after it (messages_come_in_order).
pub record ActsElsewhere {F I O : Type 0} (i : link_in.Ghosts I) (o : link_out.Ghosts O) (w : World) (net : Net)
    (v : World) (made : Net) (c : ℕ) (old new : Nodes F I O) : Type 0 where
  pub nodes_are : NodesShow i o w net old
  pub ordered : Ordered w
  pub ordered_after : Ordered v
  pub within : c < w.next_conn
  pub elsewhere : is_pipeline (w.dialled c).upper ≡ false
  pub block : ℕ
  pub keeps : KeepsOthers w v c block
  pub others : OthersStay i o w net v made c None
  pub books : NodeShows v (node_of w c) old new

-- The nodes show the world after.
abbrev pub NodesFollow : {F I O : Type 0} → files.Ghosts F → link_in.Ghosts I → link_out.Ghosts O → Type 0
NodesFollow {F} {I} {O} f i o =
    (w : World) (net : Net) (v : World) (made : Net) (c : ℕ) (old new : Nodes F I O) →
    ActsElsewhere i o w net v made c old new
    → NodesShow i o v made new

-- WHAT THE EVENTS OF NODES AND WRITERS LEAVE ELSEWHERE

-- A connection is as it was: its lower end, what was sent on it, and what was taken.
pub record SameConn (w v : World) (c : ℕ) : Type 0 where
  pub lower : v.lowers c ≡ w.lowers c
  pub downs : v.downs c ≡ w.downs c
  pub ups : v.ups c ≡ w.ups c
  pub down_marks : v.down_marks c ≡ w.down_marks c
  pub up_marks : v.up_marks c ≡ w.up_marks c

-- Readers, primaries, and connections that are none of a pipeline are as they were, and so is who dialled each connection.
-- Those that are new are of pipelines: no reader and no primary has dialled. No node has started or stopped.
pub record KeepsElsewhere (w v : World) : Type 0 where
  pub readers : (n : ℕ) → v.readers n ≡ w.readers n
  pub primaries : (n : ℕ) → v.primaries n ≡ w.primaries n
  pub running : (n : ℕ) → v.running n ≡ w.running n
  pub lives : (n : ℕ) → v.lives n ≡ w.lives n
  pub grows : w.next_conn ≤ v.next_conn
  pub dialled : (c : ℕ) → c < w.next_conn → v.dialled c ≡ w.dialled c
  pub fresh : (c : ℕ) → w.next_conn ≤ c → c < v.next_conn → is_pipeline (v.dialled c).upper ≡ true
  pub conns : (c : ℕ) → c < w.next_conn → is_pipeline (w.dialled c).upper ≡ false → SameConn w v c

-- So it is after the events of the nodes.
abbrev pub DownLeaves : Type 0
DownLeaves = (w : World) (conn : ConnId) (answered : Bool) → Ordered w → IsOfPipeline w conn.0
    → KeepsElsewhere w (happens w (event.Down conn answered))

-- And where a call on files fails.
abbrev pub FaultLeaves : Type 0
FaultLeaves = (w : World) (conn : ConnId) → Ordered w → IsOfPipeline w conn.0
    → KeepsElsewhere w (happens w (event.Fault (delivery.Down conn)))

abbrev pub ReadyLeaves : Type 0
ReadyLeaves = (w : World) (conn : ConnId) → Ordered w → IsOfPipeline w conn.0
    → KeepsElsewhere w (happens w (event.Ready conn))

abbrev pub MirrorLeaves : Type 0
MirrorLeaves = (w : World) (conn : ConnId) (d : ℕ) → Ordered w → (w.dialled conn.0).upper ≡ by_member d
    → KeepsElsewhere w (happens w (event.Up conn))

-- And after an own step of a writer, with the office's answer where it asks.
abbrev pub OwnLeaves : Type 0
OwnLeaves = (w : World) (queues : Queues) (block : BlockId) → Ordered w
    → KeepsElsewhere w (run w (due_events w queues (due.Own block)))

-- And after what a writer hears on its connection.
abbrev pub HeardLeaves : Type 0
HeardLeaves = (w : World) (conn : ConnId) (b : ℕ) → Ordered w → (w.dialled conn.0).upper ≡ by_writer b
    → KeepsElsewhere w (happens w (event.Up conn))
