-- The shelves of the nodes while the lines of a script are played.
use Rattle.std.specs.Prelude.{◌≡◌, ◌≤◌, ◌⊎◌, List, length, OnOk, Result}
use Rattle.hd_base.specs.declared.files.Files as files
use Rattle.hd_base.specs.declared.roads.Roads as roads
use Rattle.hd_base.specs.declared.roads.TheConstants.{MAX_NODES}
use Rattle.hd_base.specs.declared.shelves.Shelf as shelves
use Rattle.play_scripts.specs.NodeOpening.Emptiness.{ShelfRose}
use Rattle.play_scripts.specs.NodeOpening.Standing.{ShelvesStand, AllLentOut, ShelvesStay}
use Rattle.play_opening.specs.Play.PlayFault.{PlayFault}
use Rattle.play_opening.specs.Play.PlayFault.TheVariants as fault
use Rattle.hd_base.specs.RoadFaults.{RoadsFailed}
use Rattle.play_lines.specs.declared.playing.Playing.{Playing}
use Rattle.play_lines.specs.Drawing.{HasFailed}

-- The shelves stand for the nodes of a play, each of which has all its books; there are no more than a play may have
-- nodes.
pub record ShelvesServe {S D I O : Type 0} (s : shelves.Ghosts S D) (now : List S) (x : Playing D I O) : Type 0 where
  pub before : List S
  pub stand : ShelvesStand s before now x.player.nodes
  pub lent : AllLentOut s now x.player.nodes
  pub few : length now ≤ MAX_NODES

-- Shelves that stood for the nodes stand for them, and where no fault came each node has all its books. The blocks
-- stay.
pub record ShelvesGoOn {S D I O E : Type 0} (s : shelves.Ghosts S D) (old new : List S) (x y : Playing D I O)
    (result : Result (Unit {0}) E) : Type 0 where
  pub stay : ShelvesStay s old new x.player.nodes y.player.nodes
  pub blocks : y.player.nodes.blocks.items ≡ x.player.nodes.blocks.items
  pub serve : OnOk result (ShelvesServe s new y)

-- Each fault has its cause: the roads failed; calls on the files of a book of the node have failed, or its shelf did;
-- or memory ran out.
abbrev pub IsLineFault : {S F R I O : Type 0} → shelves.Ghosts S F → files.Ghosts F → roads.Ghosts R I O → List S →
    List S → Playing F I O → R → R → PlayFault → Type 0
IsLineFault s f r shelves shelves' new road road' fault.RoadFault = RoadsFailed r road road'
IsLineFault s f r shelves shelves' new road road' (fault.ShelfFault node) =
    HasFailed f new.player.nodes node ⊎ ShelfRose s shelves shelves' node
IsLineFault s f r shelves shelves' new road road' fault.Memory = Unit {0}
