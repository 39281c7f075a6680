-- A node has stopped, whose lower ends of connections that readers dialled are brought back.
use Rattle.std.specs.Prelude.{◌≡◌, ◌==◌, ℕ, Bool, true, false, List, slice_get, slice_set, Option, Some, None, Ok}
use Rattle.hd_base.specs.Channels.{Plain}
use Rattle.hd_base.specs.declared.ends.Conn.{Conn}
use Rattle.hd_base.specs.declared.links.LinkIn as link_in
use Rattle.hd_base.specs.declared.links.LinkOut as link_out
use Rattle.hd_base.specs.declared.numbers.NodeId.{NodeId}
use Rattle.hd_base.specs.declared.roads.Roads as roads
use Rattle.link_pieces.specs.Roads.{BringsEnd}
use Rattle.road_traffic.specs.Showing.{Net}
use Rattle.world.specs.declared.events.Event.TheVariants as event
use Rattle.world.specs.Events.{happens}
use Rattle.world.specs.Worlds.{World}
use Rattle.play_nodes.specs.declared.connections.Connection.{Connection}
use Rattle.play_nodes.specs.declared.nodes.Nodes.{Nodes}
use Rattle.play_nodes.specs.Showing.{ElsewhereStays, NodesStand}
use Rattle.play_servers.specs.declared.servers.ReadEnd.{ReadEnd}
use Rattle.play_servers.specs.declared.servers.ReadEnd.TheVariants as read_end
use Rattle.play_servers.specs.declared.servers.ReadServer.{ReadServer}
use Rattle.play_servers.specs.Known.{EndIsKnown}
use Rattle.play_reads.specs.declared.reads.Reads.{Reads}
use Rattle.play_reads.specs.Left.{ReadsLeft}
use Rattle.play_reads.specs.Serving.{ServesInOrder}
use Rattle.play_reads.specs.Showing.{ReadsShow}

-- ONE LOWER END

-- the node took the connection, if there is one
abbrev pub is_taken : {I O : Type 0} → NodeId → Option (Connection I O) → Bool
is_taken node None = false
is_taken node (Some x) = node.0 == x.node.0

abbrev pub took : {I O : Type 0} → List (Connection I O) → NodeId → ℕ → Bool
took connections node c = is_taken node (slice_get connections c)

-- The roads know the lower ends of all servers that go on.
abbrev pub AreKnown : {I O : Type 0} → Option Plain → Reads I O → Type 0
AreKnown {I} {O} plain reads = (k : ℕ) (s : ReadServer I O) → slice_get reads.servers.items k ≡ Some s
    → EndIsKnown plain s.end

-- the end of the connection, if it goes on
abbrev pub conn_of : {I O : Type 0} → ReadEnd I O → Option (Conn I O)
conn_of (read_end.Idle end) = Some end
conn_of (read_end.Serving read place) = Some read.end
conn_of read_end.Ended = None

-- A lower end was brought back, if it went on.
abbrev pub BringsIf : {R I O : Type 0} → roads.Ghosts R I O → link_in.Ghosts I → link_out.Ghosts O →
    Option (Conn I O) → R → R → Type 0
BringsIf r i o (Some end) road road' = BringsEnd r i o end road road' (Ok tt)
BringsIf r i o None road road' = road' ≡ road

abbrev pub Ends : {R I O : Type 0} → roads.Ghosts R I O → link_in.Ghosts I → link_out.Ghosts O → ReadEnd I O → R → R →
    Type 0
Ends r i o e road road' = BringsIf r i o (conn_of e) road road'

-- the server without its lower end
abbrev pub ended : {I O : Type 0} → ReadServer I O → ReadServer I O
ended s = record { conn = s.conn; end = read_end.Ended }

-- The lower end of the server at a place was taken away, and brought back.
pub record TakesEnd {R I O : Type 0} (r : roads.Ghosts R I O) (i : link_in.Ghosts I) (o : link_out.Ghosts O) (k : ℕ)
    (s : ReadServer I O) (old new : Reads I O) (road road' : R) : Type 0 where
  pub clients : new.clients ≡ old.clients
  pub set : new.servers.items ≡ slice_set old.servers.items k (ended s)
  pub ends : Ends r i o s.end road road'

-- Nothing was done.
pub record StaysSo {R I O : Type 0} (old new : Reads I O) (road road' : R) : Type 0 where
  pub same : new ≡ old
  pub roads : road' ≡ road

abbrev pub EndsIf : {R I O : Type 0} → Bool → roads.Ghosts R I O → link_in.Ghosts I → link_out.Ghosts O → ℕ →
    ReadServer I O → Reads I O → Reads I O → R → R → Type 0
EndsIf true r i o k s old new road road' = TakesEnd r i o k s old new road road'
EndsIf false r i o k s old new road road' = StaysSo old new road road'

-- So it was where the node took the connection.
abbrev pub EndsAt : {F R I O : Type 0} → roads.Ghosts R I O → link_in.Ghosts I → link_out.Ghosts O → Nodes F I O →
    NodeId → ℕ → Reads I O → Reads I O → R → R → Type 0
EndsAt {F} {R} {I} {O} r i o n node k old new road road' =
    (s : ReadServer I O) → slice_get old.servers.items k ≡ Some s
    → EndsIf (took n.connections.items node s.conn.0) r i o k s old new road road'

-- ALL OF A NODE

-- A node that ran has stopped: nodes and roads show the world after, and each end of a connection that is none of a
-- pipeline is one of it. The reads showed the world before. Messages come in order before the stop and after it
-- (messages_come_in_order), and every index is in range (indices_are_in_range).
pub record HasStopped {F R I O : Type 0} (r : roads.Ghosts R I O) (i : link_in.Ghosts I) (o : link_out.Ghosts O)
    (w : World) (net : Net) (made : Net) (node : NodeId) (n : Nodes F I O) (reads : Reads I O) (road : R) : Type 0 where
  pub runs : w.running node.0 ≡ true
  pub in_order : ServesInOrder w (event.Stop node)
  pub reads_are : ReadsShow i o w net n.blocks.items reads
  pub stands : NodesStand r i o (happens w (event.Stop node)) made road n
  pub elsewhere : ElsewhereStays i o w net (happens w (event.Stop node)) made

-- The reads show the world after, too.
abbrev pub StopShows : {F R I O : Type 0} → roads.Ghosts R I O → link_in.Ghosts I → link_out.Ghosts O → NodeId →
    Nodes F I O → Reads I O → Reads I O → R → R → Type 0
StopShows r i o node n old new road road' =
    (w : World) (net : Net) (made : Net) → HasStopped r i o w net made node n old road
    → ReadsLeft r i o (happens w (event.Stop node)) made (happens w (event.Stop node)) road' n old new
