-- A node has stopped, whose primaries and lower ends are brought back.
use Rattle.std.specs.Prelude.{◌≡◌, ◌<◌, ◌==◌, ℕ, Bool, true, false, List, map, length, slice_get, slice_set}
use Rattle.std.specs.Prelude.{Option, Some, None, Ok}
use Rattle.hd_base.specs.Channels.{Plain}
use Rattle.hd_base.specs.declared.ends.Conn.{Conn}
use Rattle.hd_base.specs.declared.links.LinkIn as link_in
use Rattle.hd_base.specs.declared.links.LinkOut as link_out
use Rattle.hd_base.specs.declared.numbers.NodeId.{NodeId}
use Rattle.hd_base.specs.declared.roads.Roads as roads
use Rattle.link_pieces.specs.Roads.{BringsEnd}
use Rattle.road_traffic.specs.Showing.{Net}
use Rattle.world.specs.declared.events.Event.TheVariants as event
use Rattle.world.specs.Events.{happens}
use Rattle.world.specs.Nodes.{node_of}
use Rattle.world.specs.Parts.{by_primary}
use Rattle.world.specs.Worlds.{World}
use Rattle.play_servers.specs.WorldNets.Nets.{IsEndOf}
use Rattle.play_nodes.specs.WorldOrders.Orders.{Ordered, purpose_of, recovering}
use Rattle.play_nodes.specs.MemberEvents.Showing.{ShowsWorld}
use Rattle.play_model.specs.Recoveries.{stopped_at}
use Rattle.play_nodes.specs.declared.connections.Connection.{Connection}
use Rattle.play_nodes.specs.declared.nodes.Nodes.{Nodes}
use Rattle.play_nodes.specs.Showing.{NodesShow, NodesStand, WritersStay}
use Rattle.play_primaries.specs.declared.clients.PrimaryClient.{PrimaryClient}
use Rattle.play_primaries.specs.Clients.{PrimaryClientShows, PrimaryIsReady}
use Rattle.play_primaries.specs.Stopping as primaries
use Rattle.play_servers.specs.declared.recoveries.AnswerEnd.{AnswerEnd}
use Rattle.play_servers.specs.declared.recoveries.AnswerEnd.TheVariants as answer_end
use Rattle.play_servers.specs.declared.recoveries.RecoveryServer.{RecoveryServer}
use Rattle.play_servers.specs.Answering.{AnswerIsKnown}
use Rattle.play_recoveries.specs.declared.recoveries.Recoveries.{Recoveries}
use Rattle.play_recoveries.specs.Keeping.{RecoveringEndsStay}
use Rattle.play_recoveries.specs.Left.{ReadersStay}
use Rattle.play_recoveries.specs.Places.{recoveries_of, PrimariesAscend, ConnsAscend}
use Rattle.play_recoveries.specs.Serving.{ServesInOrder}
use Rattle.play_recoveries.specs.Showing.{RecoveriesShow, RecoveriesStand}

-- WHAT THE ROADS KNOW

-- The roads know the lower ends of all servers that go on, and the connections of all primaries that lead.
pub record AreKnown {I O : Type 0} (plain : Option Plain) (recoveries : Recoveries I O) : Type 0 where
  pub clients : (k : ℕ) (c : PrimaryClient I O) → slice_get recoveries.clients.items k ≡ Some c
      → PrimaryIsReady plain c.state
  pub servers : (k : ℕ) (s : RecoveryServer I O) → slice_get recoveries.servers.items k ≡ Some s
      → AnswerIsKnown plain s.end

-- ONE CLIENT

-- The client at a place was stopped.
pub record IsStopped {R I O : Type 0} (r : roads.Ghosts R I O) (i : link_in.Ghosts I) (o : link_out.Ghosts O) (k : ℕ)
    (c : PrimaryClient I O) (old new : Recoveries I O) (road road' : R) : Type 0 where
  pub client : PrimaryClient I O
  pub set : new.clients.items ≡ slice_set old.clients.items k client
  pub servers : new.servers ≡ old.servers
  pub recovery : client.recovery ≡ record c.recovery { may_begin = false }
  pub stops : primaries.StopShows r i o c client road road'

-- Nothing was done.
pub record StaysSo {R I O : Type 0} (old new : Recoveries I O) (road road' : R) : Type 0 where
  pub same : new ≡ old
  pub roads : road' ≡ road

abbrev pub StopsIf : {R I O : Type 0} → Bool → roads.Ghosts R I O → link_in.Ghosts I → link_out.Ghosts O → ℕ →
    PrimaryClient I O → Recoveries I O → Recoveries I O → R → R → Type 0
StopsIf true r i o k c old new road road' = IsStopped r i o k c old new road road'
StopsIf false r i o k c old new road road' = StaysSo old new road road'

-- So it was where it is at the node.
abbrev pub StopsClient : {R I O : Type 0} → roads.Ghosts R I O → link_in.Ghosts I → link_out.Ghosts O → NodeId → ℕ →
    Recoveries I O → Recoveries I O → R → R → Type 0
StopsClient {R} {I} {O} r i o node k old new road road' =
    (c : PrimaryClient I O) → slice_get old.clients.items k ≡ Some c
    → StopsIf (c.recovery.node.0 == node.0) r i o k c old new road road'

-- ALL CLIENTS

-- A node that ran has stopped: the roads show the world after, and each end of a connection that a primary dialled is
-- one of it. The clients showed the world before. Messages come in order before the stop and after it
-- (messages_come_in_order).
pub record ClientsStand {R I O : Type 0} (r : roads.Ghosts R I O) (i : link_in.Ghosts I) (o : link_out.Ghosts O)
    (w : World) (net : Net) (made : Net) (node : NodeId) (clients : List (PrimaryClient I O)) (road : R) : Type 0 where
  pub runs : w.running node.0 ≡ true
  pub ordered : Ordered w
  pub after : Ordered (happens w (event.Stop node))
  pub each : (k : ℕ) (c : PrimaryClient I O) → slice_get clients k ≡ Some c → PrimaryClientShows i o w net c
  pub ascend : PrimariesAscend clients
  pub roads_are : ShowsWorld r (happens w (event.Stop node)) made road
  pub ends : RecoveringEndsStay i o w net (happens w (event.Stop node)) made

-- It is the upper end of a connection that a primary dialled.
pub record IsOfPrimary (v : World) (c : ℕ) (lower : Bool) : Type 0 where
  pub is_upper : lower ≡ false
  pub primary : ℕ
  pub place : ℕ
  pub upper : (v.dialled c).upper ≡ by_primary primary place

-- Clients and roads show the world after, and so do the ends that are none of a primary.
pub record ClientsLeft {R I O : Type 0} (r : roads.Ghosts R I O) (i : link_in.Ghosts I) (o : link_out.Ghosts O)
    (v : World) (made : Net) (clients : List (PrimaryClient I O)) (road : R) : Type 0 where
  pub left : Net
  pub roads_are : ShowsWorld r v left road
  pub each : (k : ℕ) (c : PrimaryClient I O) → slice_get clients k ≡ Some c → PrimaryClientShows i o v left c
  pub stays : (c : ℕ) (lower : Bool) (e : Conn I O) → (IsOfPrimary v c lower → ⊥) → IsEndOf i o v made c lower e
      → IsEndOf i o v left c lower e

-- The client that stood at a place before; where its primary hasn't begun, at the node, it never does.
pub record WasClient {I O : Type 0} (node : NodeId) (clients : List (PrimaryClient I O)) (k : ℕ)
    (c : PrimaryClient I O) : Type 0 where
  pub was : PrimaryClient I O
  pub at : slice_get clients k ≡ Some was
  pub recovers : c.recovery ≡ stopped_at node was.recovery

-- The primaries at the node lead no more.
pub record ClientsStop {R I O : Type 0} (r : roads.Ghosts R I O) (i : link_in.Ghosts I) (o : link_out.Ghosts O)
    (node : NodeId) (old new : Recoveries I O) (road road' : R) : Type 0 where
  pub servers : new.servers ≡ old.servers
  pub count : length new.clients.items ≡ length old.clients.items
  pub was : (k : ℕ) (c : PrimaryClient I O) → slice_get new.clients.items k ≡ Some c
      → WasClient node old.clients.items k c
  pub left : (w : World) (net : Net) (made : Net) → ClientsStand r i o w net made node old.clients.items road
      → ClientsLeft r i o (happens w (event.Stop node)) made new.clients.items road'

-- ONE LOWER END

-- the node took the connection, if there is one
abbrev pub is_taken : {I O : Type 0} → NodeId → Option (Connection I O) → Bool
is_taken node None = false
is_taken node (Some x) = node.0 == x.node.0

abbrev pub took : {I O : Type 0} → List (Connection I O) → NodeId → ℕ → Bool
took connections node c = is_taken node (slice_get connections c)

-- A lower end was brought back, if it went on.
abbrev pub Ends : {R I O : Type 0} → roads.Ghosts R I O → link_in.Ghosts I → link_out.Ghosts O → AnswerEnd I O → R → R
    → Type 0
Ends r i o (answer_end.Idle end) road road' = BringsEnd r i o end road road' (Ok tt)
Ends r i o (answer_end.Answering old place) road road' = BringsEnd r i o old.end road road' (Ok tt)
Ends r i o answer_end.Ended road road' = road' ≡ road

-- the server without its lower end
abbrev pub ended : {I O : Type 0} → RecoveryServer I O → RecoveryServer I O
ended s = record { conn = s.conn; end = answer_end.Ended }

-- The lower end of the server at a place was taken away, and brought back.
pub record TakesEnd {R I O : Type 0} (r : roads.Ghosts R I O) (i : link_in.Ghosts I) (o : link_out.Ghosts O) (k : ℕ)
    (s : RecoveryServer I O) (old new : Recoveries I O) (road road' : R) : Type 0 where
  pub clients : new.clients ≡ old.clients
  pub set : new.servers.items ≡ slice_set old.servers.items k (ended s)
  pub ends : Ends r i o s.end road road'

abbrev pub EndsIf : {R I O : Type 0} → Bool → roads.Ghosts R I O → link_in.Ghosts I → link_out.Ghosts O → ℕ →
    RecoveryServer I O → Recoveries I O → Recoveries I O → R → R → Type 0
EndsIf true r i o k s old new road road' = TakesEnd r i o k s old new road road'
EndsIf false r i o k s old new road road' = StaysSo old new road road'

-- So it was where the node took the connection.
abbrev pub EndsAt : {F R I O : Type 0} → roads.Ghosts R I O → link_in.Ghosts I → link_out.Ghosts O → Nodes F I O →
    NodeId → ℕ → Recoveries I O → Recoveries I O → R → R → Type 0
EndsAt {F} {R} {I} {O} r i o n node k old new road road' =
    (s : RecoveryServer I O) → slice_get old.servers.items k ≡ Some s
    → EndsIf (took n.connections.items node s.conn.0) r i o k s old new road road'

-- ALL LOWER ENDS

-- The end of a lower end that goes on is one of the world.
abbrev pub EndStands : {I O : Type 0} → link_in.Ghosts I → link_out.Ghosts O → World → Net → ℕ → AnswerEnd I O → Type 0
EndStands i o v net c (answer_end.Idle e) = IsEndOf i o v net c true e
EndStands i o v net c (answer_end.Answering old place) = IsEndOf i o v net c true old.end
EndStands i o v net c answer_end.Ended = Unit {0}

-- A primary dialled the connection, whose lower end is one of the world.
pub record StandsAt {I O : Type 0} (i : link_in.Ghosts I) (o : link_out.Ghosts O) (v : World) (net : Net)
    (s : RecoveryServer I O) : Type 0 where
  pub is_recovered : purpose_of (v.dialled s.conn.0).upper ≡ recovering
  pub within : s.conn.0 < v.next_conn
  pub at_node : node_of v s.conn.0 < v.nodes
  pub end_is : EndStands i o v net s.conn.0 s.end

-- Roads and nodes show a world, in which messages come in order, and all lower ends are ends of it.
pub record EndsStand {F R I O : Type 0} (r : roads.Ghosts R I O) (i : link_in.Ghosts I) (o : link_out.Ghosts O)
    (v : World) (net : Net) (n : Nodes F I O) (servers : List (RecoveryServer I O)) (road : R) : Type 0 where
  pub roads_are : ShowsWorld r v net road
  pub nodes_are : NodesShow i o v net n
  pub ordered : Ordered v
  pub ascend : ConnsAscend servers
  pub ends : (k : ℕ) (s : RecoveryServer I O) → slice_get servers k ≡ Some s → StandsAt i o v net s

-- The lower end of a connection that the node took, of one of the first servers, so many.
pub record IsGone {F I O : Type 0} (n : Nodes F I O) (node : NodeId) (servers : List (RecoveryServer I O)) (k c : ℕ)
    (lower : Bool) : Type 0 where
  pub is_lower : lower ≡ true
  pub taken : took n.connections.items node c ≡ true
  pub place : ℕ
  pub server : RecoveryServer I O
  pub at : slice_get servers place ≡ Some server
  pub before : place < k
  pub of_conn : server.conn.0 ≡ c

-- They show it once the first servers, so many, were looked at, and all ends that aren't gone are ends of it.
pub record EndsLeft {F R I O : Type 0} (r : roads.Ghosts R I O) (i : link_in.Ghosts I) (o : link_out.Ghosts O)
    (v : World) (net : Net) (n : Nodes F I O) (node : NodeId) (servers : List (RecoveryServer I O)) (k : ℕ) (road : R) :
    Type 0 where
  pub made : Net
  pub roads_are : ShowsWorld r v made road
  pub nodes_are : NodesShow i o v made n
  pub stays : (c : ℕ) (lower : Bool) (e : Conn I O) → (IsGone n node servers k c lower → ⊥) →
      IsEndOf i o v net c lower e
      → IsEndOf i o v made c lower e

-- a server, by whether its lower end was taken away
abbrev pub ended_if : {I O : Type 0} → Bool → RecoveryServer I O → RecoveryServer I O
ended_if true s = ended s
ended_if false s = s

-- The lower ends of the connections that the node took are brought back.
pub record ServersEnd {F R I O : Type 0} (r : roads.Ghosts R I O) (i : link_in.Ghosts I) (o : link_out.Ghosts O)
    (node : NodeId) (n : Nodes F I O) (old new : Recoveries I O) (road road' : R) : Type 0 where
  pub clients : new.clients ≡ old.clients
  pub count : length new.servers.items ≡ length old.servers.items
  pub each : (c : ℕ) (s : RecoveryServer I O) → slice_get old.servers.items c ≡ Some s
      → slice_get new.servers.items c ≡ Some (ended_if (took n.connections.items node s.conn.0) s)
  pub left : (v : World) (net : Net) → EndsStand r i o v net n old.servers.items road
      → EndsLeft r i o v net n node old.servers.items (length old.servers.items) road'

-- ALL OF A NODE

-- A node that ran has stopped: nodes and roads show the world after, and each end of a connection that a primary
-- dialled is one of it. The recoveries showed the world before. Messages come in order before the stop and after it
-- (messages_come_in_order), and every index is in range (indices_are_in_range).
pub record HasStopped {F R I O : Type 0} (r : roads.Ghosts R I O) (i : link_in.Ghosts I) (o : link_out.Ghosts O)
    (w : World) (net : Net) (made : Net) (node : NodeId) (n : Nodes F I O) (recoveries : Recoveries I O) (road : R) :
    Type 0 where
  pub runs : w.running node.0 ≡ true
  pub in_order : ServesInOrder w (event.Stop node)
  pub recoveries_are : RecoveriesShow i o w net n.blocks.items recoveries
  pub stands : NodesStand r i o (happens w (event.Stop node)) made road n
  pub ends : RecoveringEndsStay i o w net (happens w (event.Stop node)) made

-- Recoveries, nodes and roads show the world after, and so do the ends of writers and readers. No primary at the node
-- that hasn't begun ever does.
pub record HasEnded {F R I O : Type 0} (r : roads.Ghosts R I O) (i : link_in.Ghosts I) (o : link_out.Ghosts O)
    (v : World) (made : Net) (node : NodeId) (n : Nodes F I O) (old new : Recoveries I O) (road : R) : Type 0 where
  pub left : Net
  pub stands : RecoveriesStand r i o v left road n new
  pub writers : WritersStay i o v made v left
  pub readers : ReadersStay i o v made v left
  pub recovers : recoveries_of new.clients.items ≡ map (stopped_at node) (recoveries_of old.clients.items)

-- Those of the recoveries that are of the node were brought back.
abbrev pub StopShows : {F R I O : Type 0} → roads.Ghosts R I O → link_in.Ghosts I → link_out.Ghosts O → NodeId →
    Nodes F I O → Recoveries I O → Recoveries I O → R → R → Type 0
StopShows r i o node n old new road road' =
    (w : World) (net : Net) (made : Net) → HasStopped r i o w net made node n old road
    → HasEnded r i o (happens w (event.Stop node)) made node n old new road'
