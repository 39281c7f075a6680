-- The reads of a play show a world.
use Rattle.std.specs.Prelude.{◌≡◌, ◌<◌, ℕ, List, slice_get, Some}
use Rattle.hd_base.specs.declared.links.LinkIn as link_in
use Rattle.hd_base.specs.declared.links.LinkOut as link_out
use Rattle.hd_base.specs.declared.numbers.BlockId.{BlockId}
use Rattle.hd_base.specs.declared.roads.Roads as roads
use Rattle.road_traffic.specs.Showing.{Net}
use Rattle.world.specs.Parts.{by_reader, no_reader}
use Rattle.world.specs.Worlds.{World}
use Rattle.play_nodes.specs.WorldOrders.Orders.{purpose_of, reading}
use Rattle.play_nodes.specs.MemberEvents.Showing.{ShowsWorld}
use Rattle.play_nodes.specs.declared.nodes.Nodes.{Nodes}
use Rattle.play_nodes.specs.Showing.{NodesStand}
use Rattle.play_primaries.specs.PlayReaders.ReadClient.{ReadClient}
use Rattle.play_primaries.specs.PlayReaders.Clients.{ReadClientShows}
use Rattle.play_servers.specs.declared.servers.ReadServer.{ReadServer}
use Rattle.play_servers.specs.Showing.{ServerShows}
use Rattle.play_reads.specs.declared.reads.Reads.{Reads}
use Rattle.play_reads.specs.Places.{ReadersAscend, HasClient, ConnsAscend, HasServer}

-- Each client shows its reader, in the order of the readers' numbers; and each reader that has begun has one.
pub record ClientsShow {I O : Type 0} (i : link_in.Ghosts I) (o : link_out.Ghosts O) (w : World) (net : Net)
    (clients : List (ReadClient I O)) : Type 0 where
  pub each : (k : ℕ) (c : ReadClient I O) → slice_get clients k ≡ Some c → ReadClientShows i o w net c
  pub ascend : ReadersAscend clients
  pub all : (reader : ℕ) → (w.readers reader ≡ no_reader → ⊥) → HasClient clients reader

-- The connection was dialled, and this is the lower end of it.
pub record IsServer {I O : Type 0} (i : link_in.Ghosts I) (o : link_out.Ghosts O) (w : World) (net : Net)
    (blocks : List BlockId) (s : ReadServer I O) : Type 0 where
  pub within : s.conn.0 < w.next_conn
  pub shows : ServerShows i o w net s.conn.0 blocks s.end

-- Each server shows its lower end, in the order of the connections; and each connection that a reader dialled has one.
pub record ServersShow {I O : Type 0} (i : link_in.Ghosts I) (o : link_out.Ghosts O) (w : World) (net : Net)
    (blocks : List BlockId) (servers : List (ReadServer I O)) : Type 0 where
  pub each : (k : ℕ) (s : ReadServer I O) → slice_get servers k ≡ Some s → IsServer i o w net blocks s
  pub ascend : ConnsAscend servers
  pub all : (c : ℕ) → c < w.next_conn → purpose_of (w.dialled c).upper ≡ reading → HasServer servers c

-- Each reader that dialled a connection has a client.
abbrev pub DialledHaveClients : {I O : Type 0} → World → List (ReadClient I O) → Type 0
DialledHaveClients w clients =
    (c reader : ℕ) → c < w.next_conn → (w.dialled c).upper ≡ by_reader reader → HasClient clients reader

-- The clients and the servers show the world, of a play with these blocks, and each reader that dialled has a client.
pub record ReadsShow {I O : Type 0} (i : link_in.Ghosts I) (o : link_out.Ghosts O) (w : World) (net : Net)
    (blocks : List BlockId) (reads : Reads I O) : Type 0 where
  pub clients : ClientsShow i o w net reads.clients.items
  pub servers : ServersShow i o w net blocks reads.servers.items
  pub dialled : DialledHaveClients w reads.clients.items

-- So do the roads.
pub record OnRoads {R I O : Type 0} (r : roads.Ghosts R I O) (i : link_in.Ghosts I) (o : link_out.Ghosts O)
    (w : World) (net : Net) (road : R) (blocks : List BlockId) (reads : Reads I O) : Type 0 where
  pub roads_are : ShowsWorld r w net road
  pub reads_are : ReadsShow i o w net blocks reads

-- The reads, the nodes and the roads show the world.
pub record ReadsStand {F R I O : Type 0} (r : roads.Ghosts R I O) (i : link_in.Ghosts I) (o : link_out.Ghosts O)
    (w : World) (net : Net) (road : R) (n : Nodes F I O) (reads : Reads I O) : Type 0 where
  pub nodes : NodesStand r i o w net road n
  pub reads_are : ReadsShow i o w net n.blocks.items reads

-- They show some world.
pub record Stand {F R I O : Type 0} (r : roads.Ghosts R I O) (i : link_in.Ghosts I) (o : link_out.Ghosts O) (road : R)
    (n : Nodes F I O) (reads : Reads I O) : Type 0 where
  pub w : World
  pub net : Net
  pub stands : ReadsStand r i o w net road n reads
