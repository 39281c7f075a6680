-- A node stops.
use Rattle.std.specs.Prelude.{Result, Ok, Err}
use Rattle.hd_base.specs.declared.files.Files as files
use Rattle.hd_base.specs.declared.links.LinkIn as link_in
use Rattle.hd_base.specs.declared.links.LinkOut as link_out
use Rattle.hd_base.specs.declared.numbers.NodeId.{NodeId}
use Rattle.hd_base.specs.declared.roads.Roads as roads
use Rattle.play_model.specs.Lines.{stop_at}
use Rattle.play_model.specs.States.{PlayState}
use Rattle.play_opening.specs.Play.PlayFault.{PlayFault}
use Rattle.play_lines.specs.declared.playing.Playing.{Playing}
use Rattle.play_lines.specs.Drawing.{IsCaused, IsDrawn}
use Rattle.play_lines.specs.Showing.{PlayIs}

-- What is left is the play in which the node doesn't run.
abbrev pub StopEnds : {F R I O : Type 0} → files.Ghosts F → roads.Ghosts R I O → link_in.Ghosts I → link_out.Ghosts O →
    NodeId → PlayState → Playing F I O → Playing F I O → R → R → Result (Unit {0}) PlayFault → Type 0
StopEnds f r i o node p old new road road' (Ok u) = IsDrawn f r i o p (stop_at p node) old new road'
StopEnds f r i o node p old new road road' (Err why) = IsCaused f r new road road' why

abbrev pub StopShows : {F R I O : Type 0} → files.Ghosts F → roads.Ghosts R I O → link_in.Ghosts I →
    link_out.Ghosts O → NodeId → Playing F I O → Playing F I O → R → R → Result (Unit {0}) PlayFault → Type 0
StopShows f r i o node old new road road' result =
    (p : PlayState) → PlayIs f r i o p road old → StopEnds f r i o node p old new road road' result
