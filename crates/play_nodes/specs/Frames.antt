-- What the events of writers leave of the nodes, and what the events of the nodes leave of the writers.
use Rattle.std.specs.Prelude.{◌≡◌, ◌≤◌, ◌<◌, ◌+◌, ℕ, Bool, true, false, IfSome, Result, Ok, Err}
use Rattle.hd_base.specs.declared.ends.Conn.{Conn}
use Rattle.hd_base.specs.declared.files.Files as files
use Rattle.hd_base.specs.declared.links.LinkIn as link_in
use Rattle.hd_base.specs.declared.links.LinkOut as link_out
use Rattle.hd_base.specs.declared.numbers.BlockId.{BlockId}
use Rattle.hd_base.specs.declared.numbers.ConnId.{ConnId}
use Rattle.hd_base.specs.declared.numbers.NodeId.{NodeId}
use Rattle.road_traffic.specs.Showing.{Net}
use Rattle.play_model.specs.World.Delivery.TheVariants as delivery
use Rattle.play_model.specs.World.Event.TheVariants as event
use Rattle.play_model.specs.World.Parts.{by_writer, by_member, idle}
use Rattle.play_model.specs.World.Worlds.{World}
use Rattle.play_model.specs.World.Connections.{is_served}
use Rattle.play_model.specs.World.Events.{happens, run}
use Rattle.member_events.specs.WorldNets.Nets.{IsEndOf, is_over}
use Rattle.member_events.specs.WorldNets.Ends.{IsElsewhere}
use Rattle.world_orders.specs.Orders.{Ordered}
use Rattle.play_model.specs.declared.dues.Due.TheVariants as due
use Rattle.play_model.specs.Dues.{Queues, due_events}
use Rattle.play_nodes.specs.declared.faults.NodesFault.{NodesFault}
use Rattle.play_nodes.specs.declared.faults.NodesFault.TheVariants as fault
use Rattle.play_nodes.specs.declared.nodes.Nodes.{Nodes}
use Rattle.play_nodes.specs.Showing.{NodesShow}

-- WHAT THE EVENTS OF WRITERS LEAVE OF THE NODES

-- What the nodes show of the world stays; there may be more connections.
pub record KeepsNodes (w v : World) : Type 0 where
  pub nodes : v.nodes ≡ w.nodes
  pub grows : w.next_conn ≤ v.next_conn
  pub dialled : (d : ℕ) → d < w.next_conn → v.dialled d ≡ w.dialled d
  pub running : (n : ℕ) → v.running n ≡ w.running n
  pub lives : (n : ℕ) → v.lives n ≡ w.lives n
  pub lowers : (d : ℕ) → v.lowers d ≡ w.lowers d
  pub replicas : (n b : ℕ) → v.replicas n b ≡ w.replicas n b
  pub over : (c d : ℕ) → (w.dialled d).upper ≡ by_member c → is_over v d false ≡ is_over w d false

-- Each lower end, and each upper end of a connection that a member dialled, is one of the world after.
pub record EndsStay {I O : Type 0} (i : link_in.Ghosts I) (o : link_out.Ghosts O) (w : World) (net : Net) (v : World)
    (made : Net) : Type 0 where
  pub lowers : (d : ℕ) (e : Conn I O) → IsEndOf i o w net d true e → IsEndOf i o v made d true e
  pub uppers : (c d : ℕ) (e : Conn I O) → (w.dialled d).upper ≡ by_member c → IsEndOf i o w net d false e →
      IsEndOf i o v made d false e

-- The nodes show a world, of which an event keeps all that they show. Messages come in order before it
-- (messages_come_in_order).
pub record IsKept {F I O : Type 0} (i : link_in.Ghosts I) (o : link_out.Ghosts O) (w : World) (net : Net) (v : World)
    (made : Net) (n : Nodes F I O) : Type 0 where
  pub nodes_are : NodesShow i o w net n
  pub ordered : Ordered w
  pub keeps : KeepsNodes w v
  pub ends : EndsStay i o w net v made

-- Where an event leaves each end but the upper one of a writer's connection, the ends of the nodes stay.
abbrev pub NodesEndsStay : {I O : Type 0} → link_in.Ghosts I → link_out.Ghosts O → Type 0
NodesEndsStay {I} {O} i o =
    (w : World) (net : Net) (v : World) (made : Net) (b : ℕ) → Ordered w →
    ((d : ℕ) (lower : Bool) (e : Conn I O) → IfSome (w.writers b).conn (λ c. IsElsewhere c false d lower) →
    IsEndOf i o w net d lower e
    → IsEndOf i o v made d lower e)
    → EndsStay i o w net v made

-- Where the event dials nothing, the nodes show the world after it.
abbrev pub NodesStay : {F I O : Type 0} → files.Ghosts F → link_in.Ghosts I → link_out.Ghosts O → Type 0
NodesStay {F} {I} {O} f i o =
    (w : World) (net : Net) (v : World) (made : Net) (n : Nodes F I O) → IsKept i o w net v made n →
    v.next_conn ≡ w.next_conn
    → NodesShow i o v made n

-- The writer of a block dialled a node, which runs; nothing was taken there by this lower end.
pub record DialShows {I O : Type 0} (i : link_in.Ghosts I) (o : link_out.Ghosts O) (v : World) (made : Net)
    (block : BlockId) (node : NodeId) (c : ℕ) (at_end : Conn I O) : Type 0 where
  pub end_is : IsEndOf i o v made c true at_end
  pub upper : (v.dialled c).upper ≡ by_writer block.0
  pub node_is : (v.dialled c).to.node ≡ node.0
  pub served : is_served v c ≡ true
  pub idle_is : v.lowers c ≡ idle

-- With the connection that was dialled the nodes show the world after.
abbrev pub DialledShows : {F I O : Type 0} → link_in.Ghosts I → link_out.Ghosts O → BlockId → NodeId → Conn I O →
    Nodes F I O → Nodes F I O → Result (Unit {0}) NodesFault → Type 0
DialledShows i o block node at_end old new (Ok u) =
    (w : World) (net : Net) (v : World) (made : Net) → IsKept i o w net v made old →
    v.next_conn ≡ w.next_conn + 1 → DialShows i o v made block node w.next_conn at_end
    → NodesShow i o v made new
DialledShows i o block node at_end old new (Err why) = why ≡ fault.Memory

-- The connection was dialled by the writer of this block, at a node that runs.
pub record IsFirst (v : World) (b c : ℕ) : Type 0 where
  pub upper : (v.dialled c).upper ≡ by_writer b
  pub served : is_served v c ≡ true

-- What the nodes show stays, and the writer of the block has dialled at most once.
pub record WriterKeeps (w v : World) (b : ℕ) : Type 0 where
  pub keeps : KeepsNodes w v
  pub once : v.next_conn ≤ w.next_conn + 1
  pub dials : w.next_conn < v.next_conn → IsFirst v b w.next_conn

-- An own step of a writer, with the office's answer where it asks, keeps what the nodes show.
abbrev pub OwnKeeps : Type 0
OwnKeeps = (w : World) (queues : Queues) (block : BlockId) →
    WriterKeeps w (run w (due_events w queues (due.Own block))) block.0

-- The event dials nothing, and what the nodes show stays.
pub record HearKeeps (w v : World) : Type 0 where
  pub keeps : KeepsNodes w v
  pub conns : v.next_conn ≡ w.next_conn

-- So does what a writer hears on its connection.
abbrev pub HeardKeeps : Type 0
HeardKeeps = (w : World) (conn : ConnId) (b : ℕ) → (w.dialled conn.0).upper ≡ by_writer b
    → HearKeeps w (happens w (event.Up conn))

-- WHAT THE EVENTS OF THE NODES LEAVE OF THE WRITERS

-- The office, the writers, what was answered, and which ends writers took stay.
pub record KeepsWriters (w v : World) : Type 0 where
  pub office : v.office ≡ w.office
  pub writers : (b : ℕ) → v.writers b ≡ w.writers b
  pub said : (b : ℕ) → v.said b ≡ w.said b
  pub over : (b c : ℕ) → (w.dialled c).upper ≡ by_writer b → is_over v c false ≡ is_over w c false

abbrev pub DownKeeps : Type 0
DownKeeps = (w : World) (conn : ConnId) (answered : Bool) → KeepsWriters w (happens w (event.Down conn answered))

-- So they do where a call on files fails.
abbrev pub FaultKeeps : Type 0
FaultKeeps = (w : World) (conn : ConnId) → KeepsWriters w (happens w (event.Fault (delivery.Down conn)))

abbrev pub ReadyKeeps : Type 0
ReadyKeeps = (w : World) (conn : ConnId) → KeepsWriters w (happens w (event.Ready conn))

abbrev pub MirrorKeeps : Type 0
MirrorKeeps = (w : World) (conn : ConnId) (d : ℕ) → (w.dialled conn.0).upper ≡ by_member d
    → KeepsWriters w (happens w (event.Up conn))
