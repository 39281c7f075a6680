-- A connection of a block's pipeline is cut.
use Rattle.std.specs.Prelude.{ℕ, Result, Ok, Err}
use Rattle.hd_base.specs.declared.files.Files as files
use Rattle.hd_base.specs.declared.links.LinkIn as link_in
use Rattle.hd_base.specs.declared.links.LinkOut as link_out
use Rattle.hd_base.specs.declared.numbers.BlockId.{BlockId}
use Rattle.hd_base.specs.declared.roads.Roads as roads
use Rattle.play_model.specs.Lines.{pipeline_conn, cut_at}
use Rattle.play_model.specs.States.{PlayState, world_of}
use Rattle.play_opening.specs.Play.PlayFault.{PlayFault}
use Rattle.play_lines.specs.declared.playing.Playing.{Playing}
use Rattle.play_lines.specs.Drawing.{IsCaused, IsDrawn}
use Rattle.play_lines.specs.Showing.{PlayIs}

-- What is left is the play in which the connection has ended, if there is one.
abbrev pub CutEnds : {F R I O : Type 0} → files.Ghosts F → roads.Ghosts R I O → link_in.Ghosts I → link_out.Ghosts O →
    BlockId → ℕ → ℕ → ℕ → PlayState → Playing F I O → Playing F I O → R → R → Result (Unit {0}) PlayFault → Type 0
CutEnds f r i o block place down up p old new road road' (Ok u) =
    IsDrawn f r i o p (cut_at p (pipeline_conn (world_of p) block.0 place) down up) old new road'
CutEnds f r i o block place down up p old new road road' (Err why) = IsCaused f r new road road' why

abbrev pub CutShows : {F R I O : Type 0} → files.Ghosts F → roads.Ghosts R I O → link_in.Ghosts I → link_out.Ghosts O →
    BlockId → ℕ → ℕ → ℕ → Playing F I O → Playing F I O → R → R → Result (Unit {0}) PlayFault → Type 0
CutShows f r i o block place down up old new road road' result =
    (p : PlayState) → PlayIs f r i o p road old → CutEnds f r i o block place down up p old new road road' result
