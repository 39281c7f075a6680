-- What a connection's first message makes of roads and nodes that show a world.
use Rattle.std.specs.Prelude.{◌≡◌, ◌⊎◌, ◌&&◌, ℕ, Bool, true, false, Option, Some, None, Result, Ok, Err}
use Rattle.hd_base.specs.Faults.{FaultsIncreased}
use Rattle.hd_base.specs.declared.numbers.ConnId.{ConnId}
use Rattle.hd_base.specs.declared.numbers.NodeId.{NodeId}
use Rattle.hd_base.specs.declared.files.Files as files
use Rattle.hd_base.specs.declared.links.LinkIn as link_in
use Rattle.hd_base.specs.declared.links.LinkOut as link_out
use Rattle.hd_base.specs.declared.roads.Roads as roads
use Rattle.op_headers.specs.Values.{WriteFields}
use Rattle.road_traffic.specs.Showing.{Net}
use Rattle.play_model.specs.World.Event.TheVariants as event
use Rattle.play_model.specs.World.Parts.{idle}
use Rattle.play_model.specs.World.Worlds.{World}
use Rattle.play_model.specs.World.Nodes.{mirror_node}
use Rattle.play_model.specs.World.Events.{happens}
use Rattle.member_events.specs.WorldNets.Drawn.{ComesDown}
use Rattle.world_requests.specs.Requests.{AllAsked, IsAmong}
use Rattle.play_model.specs.declared.dues.Due.TheVariants as due
use Rattle.play_model.specs.Dues.{Queues, is_due}
use Rattle.member_events.specs.Joining.{write_next}
use Rattle.play_nodes.specs.declared.faults.NodesFault.{NodesFault}
use Rattle.play_nodes.specs.declared.nodes.Nodes.{Nodes}
use Rattle.play_nodes.specs.Showing.{IsOfPipeline, NodesStand, NodesLeft}
use Rattle.play_nodes.specs.Events.{IsLawful, IsCaused}

-- Each request to write that was sent is for one of the play's blocks, and the ports of its targets are those of nodes: so
-- it is where all writers that act are of these blocks (requests_are_among).
abbrev pub RequestsFit : {F I O : Type 0} → World → Nodes F I O → Type 0
RequestsFit w n = AllAsked (IsAmong n.blocks.items) w

-- A request to write was taken whose mirror is at this node, which couldn't be asked: it doesn't run, or the roads' count
-- rose.
pub record IsUnanswered {R I O : Type 0} (r : roads.Ghosts R I O) (w : World) (c : ℕ) (node : NodeId) (road road' : R) :
    Type 0 where
  pub fields : WriteFields
  pub comes : ComesDown w c (write_next fields)
  pub node_is : mirror_node fields.targets ≡ Some node.0
  pub cause : (w.running node.0 ≡ false) ⊎ FaultsIncreased (r.faults road) (r.faults road')

-- So it was, and the world after is one in which a dial of that node fails: it isn't answered, or the node doesn't run.
pub record BeginsUnanswered {F R I O : Type 0} (r : roads.Ghosts R I O) (i : link_in.Ghosts I) (o : link_out.Ghosts O)
    (w : World) (net : Net) (conn : ConnId) (node : NodeId) (new : Nodes F I O) (road road' : R) : Type 0 where
  pub unanswered : IsUnanswered r w conn.0 node road road'
  pub left : (answered : Bool) → (answered && w.running node.0) ≡ false →
      NodesLeft r i o w net (happens w (event.Down conn answered)) road' new

abbrev pub BeginEnds : {F R I O : Type 0} → files.Ghosts F → roads.Ghosts R I O → link_in.Ghosts I →
    link_out.Ghosts O → World → Net → ConnId → Nodes F I O → Nodes F I O → R → R → Result (Option NodeId) NodesFault →
    Type 0
BeginEnds f r i o w net conn old new road road' (Ok None) =
    NodesLeft r i o w net (happens w (event.Down conn true)) road' new
BeginEnds f r i o w net conn old new road road' (Ok (Some node)) =
    BeginsUnanswered r i o w net conn node new road road'
BeginEnds f r i o w net conn old new road road' (Err why) = IsCaused f r old new road road' why

abbrev pub BeginShows : {F R I O : Type 0} → files.Ghosts F → roads.Ghosts R I O → link_in.Ghosts I →
    link_out.Ghosts O → ConnId → Nodes F I O → Nodes F I O → R → R → Result (Option NodeId) NodesFault → Type 0
BeginShows f r i o conn old new road road' result =
    (w : World) (net : Net) (queues : Queues) → NodesStand r i o w net road old → IsOfPipeline w conn.0 →
    ((answered : Bool) → IsLawful w (event.Down conn answered)) → RequestsFit w old →
    is_due w queues (due.Down conn) ≡ true → w.lowers conn.0 ≡ idle
    → BeginEnds f r i o w net conn old new road road' result
