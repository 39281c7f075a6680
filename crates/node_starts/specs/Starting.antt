-- A node of a play starts again.
use Rattle.std.specs.Prelude.{ℕ, ◌≡◌, ◌+◌, ◌<◌, true, false, [], Result}
use Rattle.hd_base.specs.declared.files.Files as files
use Rattle.hd_base.specs.declared.links.LinkIn as link_in
use Rattle.hd_base.specs.declared.links.LinkOut as link_out
use Rattle.hd_base.specs.declared.numbers.NodeId.{NodeId}
use Rattle.hd_base.specs.declared.roads.Roads as roads
use Rattle.hd_base.specs.declared.roads.TheConstants.{FIRST_PORT}
use Rattle.hd_base.specs.declared.shelves.Shelf as shelves
use Rattle.road_traffic.specs.Showing.{Net, RoadsShow, ResultIs, listened_net}
use Rattle.world.specs.declared.events.Event.TheVariants as event
use Rattle.world.specs.Events.{happens}
use Rattle.world.specs.Worlds.{World}
use Rattle.node_restarts.specs.PlayNodes.Nodes.{Nodes}
use Rattle.node_restarts.specs.PlayNodes.Showing.{NodesStand, NodesLeft}
use Rattle.node_starts.specs.Books.{NodeTells}
use Rattle.world_breaks.specs.Breaks.{AllWholeAgain}
use Rattle.node_starts.specs.Lives.{IsLived}

-- ROADS

-- Whatever connections the roads show: the node's port is listened on, or they show the same after a fault.
abbrev pub Listens : {R I O E : Type 0} → roads.Ghosts R I O → ℕ → R → R → Result (Unit {0}) E → Type 0
Listens r node road road' result = (net : Net) → RoadsShow r net road →
    ResultIs result (RoadsShow r (listened_net net (FIRST_PORT + node) true) road') (RoadsShow r net road')

-- STARTS

-- A node of the world that doesn't run. Each connection was dialled in a life of its node that has begun
-- (dials_are_of_lives_so_far).
pub record CanStart (w : World) (node : NodeId) : Type 0 where
  pub is_node : node.0 < w.nodes
  pub stands_still : w.running node.0 ≡ false
  pub lived : IsLived w

-- Whatever world they showed in which the node may start and a restart finds all of each broken replica, where the files
-- of the node's books are told: nodes and roads show the world after its restart, of which nothing need be said, and the
-- ends of writers stay.
abbrev pub StartShows : {S D R I O : Type 0} → shelves.Ghosts S D → files.Ghosts D → roads.Ghosts R I O →
    link_in.Ghosts I → link_out.Ghosts O → NodeId → S → Nodes D I O → Nodes D I O → R → R → Type 0
StartShows s d r i o node shelf old new road road' =
    (w : World) (net : Net) → NodesStand r i o w net road old → CanStart w node → AllWholeAgain w →
    NodeTells s d node shelf old
    → NodesLeft r i o w net (happens w (event.Restart node [])) road' new
