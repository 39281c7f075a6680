-- The recoveries of a play show a world.
use Rattle.std.specs.Prelude.{◌≡◌, ◌<◌, ℕ, List, length, slice_get, Some}
use Rattle.hd_base.specs.declared.links.LinkIn as link_in
use Rattle.hd_base.specs.declared.links.LinkOut as link_out
use Rattle.hd_base.specs.declared.numbers.BlockId.{BlockId}
use Rattle.hd_base.specs.declared.roads.Roads as roads
use Rattle.road_traffic.specs.Showing.{Net}
use Rattle.world.specs.Parts.{by_primary, no_primary}
use Rattle.world.specs.Worlds.{World}
use Rattle.play_nodes.specs.WorldOrders.Orders.{purpose_of, recovering}
use Rattle.play_nodes.specs.MemberEvents.Showing.{ShowsWorld}
use Rattle.play_nodes.specs.declared.nodes.Nodes.{Nodes}
use Rattle.play_nodes.specs.Showing.{NodesStand}
use Rattle.play_primaries.specs.declared.clients.PrimaryClient.{PrimaryClient}
use Rattle.play_primaries.specs.declared.clients.PrimaryState.{PrimaryState}
use Rattle.play_primaries.specs.declared.clients.PrimaryState.TheVariants as state
use Rattle.play_primaries.specs.Clients.{PrimaryClientShows}
use Rattle.play_servers.specs.declared.recoveries.RecoveryServer.{RecoveryServer}
use Rattle.play_servers.specs.Recoveries.{ServerShows}
use Rattle.play_recoveries.specs.declared.recoveries.Recoveries.{Recoveries}
use Rattle.play_recoveries.specs.Places.{PrimariesAscend, HasClient, ConnsAscend, HasServer}

-- A primary that leads has a seat for each member.
abbrev pub HasSeats : {I O : Type 0} → PrimaryState I O → Type 0
HasSeats (state.Leads primary) = length primary.links.items ≡ length primary.members
HasSeats other = Unit {0}

-- Each client shows its primary, in the order of the primaries' numbers; and each primary that has begun has one.
pub record ClientsShow {I O : Type 0} (i : link_in.Ghosts I) (o : link_out.Ghosts O) (w : World) (net : Net)
    (clients : List (PrimaryClient I O)) : Type 0 where
  pub each : (k : ℕ) (c : PrimaryClient I O) → slice_get clients k ≡ Some c → PrimaryClientShows i o w net c
  pub seats : (k : ℕ) (c : PrimaryClient I O) → slice_get clients k ≡ Some c → HasSeats c.state
  pub ascend : PrimariesAscend clients
  pub all : (primary : ℕ) → (w.primaries primary ≡ no_primary → ⊥) → HasClient clients primary

-- The connection was dialled, and this is the lower end of it.
pub record IsServer {I O : Type 0} (i : link_in.Ghosts I) (o : link_out.Ghosts O) (w : World) (net : Net)
    (blocks : List BlockId) (s : RecoveryServer I O) : Type 0 where
  pub within : s.conn.0 < w.next_conn
  pub shows : ServerShows i o w net s.conn.0 blocks s.end

-- Each server shows its lower end, in the order of the connections; and each connection that a primary dialled has one.
pub record ServersShow {I O : Type 0} (i : link_in.Ghosts I) (o : link_out.Ghosts O) (w : World) (net : Net)
    (blocks : List BlockId) (servers : List (RecoveryServer I O)) : Type 0 where
  pub each : (k : ℕ) (s : RecoveryServer I O) → slice_get servers k ≡ Some s → IsServer i o w net blocks s
  pub ascend : ConnsAscend servers
  pub all : (c : ℕ) → c < w.next_conn → purpose_of (w.dialled c).upper ≡ recovering → HasServer servers c

-- Each primary that dialled a connection has a client.
abbrev pub DialledHaveClients : {I O : Type 0} → World → List (PrimaryClient I O) → Type 0
DialledHaveClients w clients = (c primary place : ℕ) → c < w.next_conn →
    (w.dialled c).upper ≡ by_primary primary place
    → HasClient clients primary

-- The clients and the servers show the world, of a play with these blocks, and each primary that dialled has a client.
pub record RecoveriesShow {I O : Type 0} (i : link_in.Ghosts I) (o : link_out.Ghosts O) (w : World) (net : Net)
    (blocks : List BlockId) (recoveries : Recoveries I O) : Type 0 where
  pub clients : ClientsShow i o w net recoveries.clients.items
  pub servers : ServersShow i o w net blocks recoveries.servers.items
  pub dialled : DialledHaveClients w recoveries.clients.items

-- So do the roads.
pub record OnRoads {R I O : Type 0} (r : roads.Ghosts R I O) (i : link_in.Ghosts I) (o : link_out.Ghosts O)
    (w : World) (net : Net) (road : R) (blocks : List BlockId) (recoveries : Recoveries I O) : Type 0 where
  pub roads_are : ShowsWorld r w net road
  pub recoveries_are : RecoveriesShow i o w net blocks recoveries

-- The recoveries, the nodes and the roads show the world.
pub record RecoveriesStand {F R I O : Type 0} (r : roads.Ghosts R I O) (i : link_in.Ghosts I) (o : link_out.Ghosts O)
    (w : World) (net : Net) (road : R) (n : Nodes F I O) (recoveries : Recoveries I O) : Type 0 where
  pub nodes : NodesStand r i o w net road n
  pub recoveries_are : RecoveriesShow i o w net n.blocks.items recoveries

-- They show some world.
pub record Stand {F R I O : Type 0} (r : roads.Ghosts R I O) (i : link_in.Ghosts I) (o : link_out.Ghosts O) (road : R)
    (n : Nodes F I O) (recoveries : Recoveries I O) : Type 0 where
  pub w : World
  pub net : Net
  pub stands : RecoveriesStand r i o w net road n recoveries
