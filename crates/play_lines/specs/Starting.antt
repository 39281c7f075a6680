-- A node starts again.
use Rattle.std.specs.Prelude.{◌≡◌, List, length, Result, Ok, Err}
use Rattle.hd_base.specs.declared.files.Files as files
use Rattle.hd_base.specs.declared.links.LinkIn as link_in
use Rattle.hd_base.specs.declared.links.LinkOut as link_out
use Rattle.hd_base.specs.declared.numbers.NodeId.{NodeId}
use Rattle.hd_base.specs.declared.roads.Roads as roads
use Rattle.hd_base.specs.declared.shelves.Shelf as shelves
use Rattle.play_model.specs.Lines.{start_at}
use Rattle.play_model.specs.States.{PlayState}
use Rattle.play_opening.specs.Play.PlayFault.{PlayFault}
use Rattle.play_lines.specs.declared.playing.Playing.{Playing}
use Rattle.play_lines.specs.Drawing.{IsDrawn}
use Rattle.play_lines.specs.Shelves.{IsLineFault}
use Rattle.play_lines.specs.Showing.{PlayIs}

-- What is left is the play in which the node has started again.
abbrev pub StartEnds : {S F R I O : Type 0} → shelves.Ghosts S F → files.Ghosts F → roads.Ghosts R I O →
    link_in.Ghosts I → link_out.Ghosts O → NodeId → PlayState → List S → List S → Playing F I O → Playing F I O →
    R → R → Result (Unit {0}) PlayFault → Type 0
StartEnds s f r i o node p shelves shelves' old new road road' (Ok u) = IsDrawn f r i o p (start_at p node) old new road'
StartEnds s f r i o node p shelves shelves' old new road road' (Err why) =
    IsLineFault s f r shelves shelves' new road road' why

-- So it is where there is a shelf for each node.
abbrev pub StartShows : {S F R I O : Type 0} → shelves.Ghosts S F → files.Ghosts F → roads.Ghosts R I O →
    link_in.Ghosts I → link_out.Ghosts O → NodeId → List S → List S → Playing F I O → Playing F I O → R → R →
    Result (Unit {0}) PlayFault → Type 0
StartShows s f r i o node shelves shelves' old new road road' result =
    (p : PlayState) → PlayIs f r i o p road old → length shelves ≡ p.nodes
    → StartEnds s f r i o node p shelves shelves' old new road road' result
