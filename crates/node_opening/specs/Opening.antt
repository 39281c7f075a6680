-- The nodes of a play are opened.
use Rattle.std.specs.Prelude.{◌≡◌, ℕ, List, [], Result, Ok, Err}
use Rattle.hd_base.specs.Faults.{FaultsIncreased}
use Rattle.hd_base.specs.declared.numbers.BlockId.{BlockId}
use Rattle.hd_base.specs.declared.files.Files as files
use Rattle.hd_base.specs.declared.links.LinkIn as link_in
use Rattle.hd_base.specs.declared.links.LinkOut as link_out
use Rattle.hd_base.specs.declared.roads.Roads as roads
use Rattle.hd_base.specs.declared.shelves.Shelf as shelves
use Rattle.play_nodes.specs.declared.nodes.Nodes.{Nodes}
use Rattle.play_nodes.specs.Showing.{NodesStand}
use Rattle.play_nodes.specs.World.Worlds.{start}
use Rattle.node_opening.specs.declared.faults.OpenFault.{OpenFault}
use Rattle.node_opening.specs.declared.faults.OpenFault.TheVariants as fault
use Rattle.node_opening.specs.Shelves.{AllEmpty}
use Rattle.node_opening.specs.Emptiness.{IsFaultOf}
use Rattle.node_opening.specs.Lending.{HaveBooks}
use Rattle.node_opening.specs.Listening.{AreUnused, opened_net}

-- No shelf had files, and the nodes have the books of these blocks over what their shelves have lent. There is no
-- connection yet.
pub record IsOpened {S D I O : Type 0} (s : shelves.Ghosts S D) (d : files.Ghosts D) (blocks : List BlockId)
    (old new : List S) (n : Nodes D I O) : Type 0 where
  pub blocks_are : n.blocks.items ≡ blocks
  pub none_dialled : n.connections.items ≡ []
  pub empty : AllEmpty s old
  pub have_books : HaveBooks s d blocks old new n.nodes.items

-- Where the roads were unused, nodes and roads show the first world of so many nodes.
abbrev pub OpensStand : {D R I O : Type 0} → roads.Ghosts R I O → link_in.Ghosts I → link_out.Ghosts O → ℕ → R → R →
    Result (Nodes D I O) OpenFault → Type 0
OpensStand r i o nodes road road' (Ok n) = AreUnused r road → NodesStand r i o (start nodes) (opened_net nodes) road' n
OpensStand r i o nodes road road' (Err _) = Unit {0}

-- The roads failed, and their count rose; or a shelf did, or has files; or memory ran out.
abbrev pub HasOpenCause : {R I O S D : Type 0} → roads.Ghosts R I O → shelves.Ghosts S D → R → R → List S → List S →
    OpenFault → Type 0
HasOpenCause r s road road' old new fault.RoadFault = FaultsIncreased (r.faults road) (r.faults road')
HasOpenCause r s road road' old new other = IsFaultOf s old new other
