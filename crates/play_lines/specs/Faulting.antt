-- What a line makes of a play by which a write is to fail.
use Rattle.std.specs.Prelude.{◌≡◌, ℕ, slice_set}
use Rattle.hd_base.specs.declared.files.Files as files
use Rattle.hd_base.specs.declared.links.LinkIn as link_in
use Rattle.hd_base.specs.declared.links.LinkOut as link_out
use Rattle.hd_base.specs.declared.numbers.NodeId.{NodeId}
use Rattle.hd_base.specs.declared.roads.Roads as roads
use Rattle.play_model.specs.States.{PlayState, armed}
use Rattle.play_opening.specs.Play.Events.{FilesTell}
use Rattle.play_scripts.specs.PlayLaws.Members.{IsNode}
use Rattle.play_lines.specs.declared.playing.Playing.{Playing}
use Rattle.play_lines.specs.Drawing.{IsLeft}
use Rattle.play_lines.specs.Showing.{PlayIs}

-- The number of the node is this, if it has one, and all else is as it was.
pub record Arms {F I O : Type 0} (node : NodeId) (nth : ℕ) (old new : Playing F I O) : Type 0 where
  pub same : new ≡ record old { faults = new.faults }
  pub set : new.faults.items ≡ slice_set old.faults.items node.0 nth

-- So what is left is the play in which this write is to fail, of files that are told.
abbrev pub ArmsArePlays : {F R I O : Type 0} → files.Ghosts F → roads.Ghosts R I O → link_in.Ghosts I →
    link_out.Ghosts O → Type 0
ArmsArePlays {F} {R} {I} {O} f r i o =
    (old new : Playing F I O) (node : NodeId) (nth : ℕ) (p : PlayState) (road : R) → Arms node nth old new →
    PlayIs f r i o p road old → FilesTell f → IsNode p.nodes node
    → IsLeft f r i o (armed p node.0 nth) old new road
