-- A node of a play stops.
use Rattle.std.specs.Prelude.{◌≡◌, true, Result, Ok, Err}
use Rattle.std.specs.declared.alloc.AllocError.{AllocError}
use Rattle.hd_base.specs.declared.links.LinkIn as link_in
use Rattle.hd_base.specs.declared.links.LinkOut as link_out
use Rattle.hd_base.specs.declared.numbers.NodeId.{NodeId}
use Rattle.hd_base.specs.declared.roads.Roads as roads
use Rattle.road_traffic.specs.Showing.{Net}
use Rattle.world_stops.specs.World.Event.TheVariants as event
use Rattle.world_stops.specs.World.Events.{happens}
use Rattle.world_stops.specs.World.Worlds.{World}
use Rattle.world_stops.specs.WorldLaws.Placing.{Placed}
use Rattle.play_nodes.specs.WorldOrders.Orders.{Ordered}
use Rattle.world_stops.specs.Origins.{AllAreFrom}
use Rattle.play_nodes.specs.declared.nodes.Nodes.{Nodes}
use Rattle.play_nodes.specs.Showing.{NodesStand, NodesLeft}

-- A node that runs may stop. Every index is in range (indices_are_in_range), messages come in order
-- (messages_come_in_order), and connections were dialled from where they should be (dials_have_origins).
pub record CanStop (w : World) (node : NodeId) : Type 0 where
  pub runs : w.running node.0 ≡ true
  pub placed : Placed w
  pub ordered : Ordered w
  pub from : AllAreFrom w

-- The nodes and the roads show the world in which the node stops, and the ends of writers stay; or memory ran out.
abbrev pub StopEnds : {F R I O : Type 0} → roads.Ghosts R I O → link_in.Ghosts I → link_out.Ghosts O → World → Net →
    NodeId → Nodes F I O → R → Result (Unit {0}) AllocError → Type 0
StopEnds r i o w net node new road' (Ok u) = NodesLeft r i o w net (happens w (event.Stop node)) road' new
StopEnds r i o w net node new road' (Err e) = Unit {0}

abbrev pub StopShows : {F R I O : Type 0} → roads.Ghosts R I O → link_in.Ghosts I → link_out.Ghosts O → NodeId →
    Nodes F I O → Nodes F I O → R → R → Result (Unit {0}) AllocError → Type 0
StopShows r i o node old new road road' result =
    (w : World) (net : Net) → NodesStand r i o w net road old → CanStop w node
    → StopEnds r i o w net node new road' result
