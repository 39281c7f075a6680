-- A player, and the roads that its connections were made on, show a world.
use Rattle.std.specs.Prelude.{◌≡◌, ℕ, length, slice_get, Some}
use Rattle.hd_base.specs.declared.links.LinkIn as link_in
use Rattle.hd_base.specs.declared.links.LinkOut as link_out
use Rattle.hd_base.specs.declared.roads.Roads as roads
use Rattle.road_traffic.specs.Showing.{Net}
use Rattle.world.specs.Worlds.{World}
use Rattle.play_model.specs.Dues.{Queues}
use Rattle.play_dues.specs.PlayClients.Client.{Client}
use Rattle.play_dues.specs.PlayClients.Clients.{ClientShows}
use Rattle.node_stops.specs.PlayNodes.Showing.{NodesStand, TellsRunning}
use Rattle.play_dues.specs.PlayReads.Showing.{ReadsShow}
use Rattle.play_dues.specs.PlayRecoveries.Showing.{RecoveriesShow}
use Rattle.play.specs.declared.player.Player.{Player}

-- The client of a block shows the world, and has the commands that its writer hasn't taken.
pub record IsClient {I O : Type 0} (i : link_in.Ghosts I) (o : link_out.Ghosts O) (w : World) (net : Net)
    (queues : Queues) (c : Client I O) : Type 0 where
  pub shows : ClientShows i o w net c
  pub queue : c.queue.items ≡ queues c.block.0

-- No block has two clients.
abbrev pub AreApart : {F I O : Type 0} → Player F I O → Type 0
AreApart {F} {I} {O} p = (j k : ℕ) (a b : Client I O) → slice_get p.clients.items j ≡ Some a →
    slice_get p.clients.items k ≡ Some b → a.block.0 ≡ b.block.0
    → j ≡ k

-- The nodes, the reads, the recoveries, the clients, the office and the roads show the world, and it is told of each node
-- whether it runs.
pub record PlayerShows {F R I O : Type 0} (r : roads.Ghosts R I O) (i : link_in.Ghosts I) (o : link_out.Ghosts O)
    (w : World) (net : Net) (queues : Queues) (road : R) (p : Player F I O) : Type 0 where
  pub nodes : NodesStand r i o w net road p.nodes
  pub reads : ReadsShow i o w net p.nodes.blocks.items p.reads
  pub recoveries : RecoveriesShow i o w net p.nodes.blocks.items p.recoveries
  pub clients : (k : ℕ) (c : Client I O) → slice_get p.clients.items k ≡ Some c → IsClient i o w net queues c
  pub apart : AreApart p
  pub office : p.office.office ≡ w.office
  pub running : TellsRunning w p.running.items
  pub slots : length p.running.items ≡ w.nodes

-- They show some world.
pub record PlayerStands {F R I O : Type 0} (r : roads.Ghosts R I O) (i : link_in.Ghosts I) (o : link_out.Ghosts O)
    (road : R) (p : Player F I O) : Type 0 where
  pub w : World
  pub net : Net
  pub queues : Queues
  pub shows : PlayerShows r i o w net queues road p
