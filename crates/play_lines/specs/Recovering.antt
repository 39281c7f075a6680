-- What a line that asks to recover makes of a play.
use Rattle.std.specs.Prelude.{◌≡◌, ◌<◌, ℕ, true, List, slice_get, Some, Result, Ok, Err}
use Rattle.hd_base.specs.declared.files.Files as files
use Rattle.hd_base.specs.declared.links.LinkIn as link_in
use Rattle.hd_base.specs.declared.links.LinkOut as link_out
use Rattle.hd_base.specs.declared.numbers.BlockId.{BlockId}
use Rattle.hd_base.specs.declared.numbers.NodeId.{NodeId}
use Rattle.hd_base.specs.declared.roads.Roads as roads
use Rattle.world.specs.Clients.{are_members}
use Rattle.play_model.specs.declared.recoveries.Recovery.{Recovery}
use Rattle.play_model.specs.States.{PlayState, world_of, recovering}
use Rattle.play_scripts.specs.PlayNodes.Showing.{runs_in}
use Rattle.play_opening.specs.PlayRecoveries.Joining.{HasJoined, RunsIfItMay}
use Rattle.play_opening.specs.Play.PlayFault.{PlayFault}
use Rattle.play_opening.specs.Play.PlayFault.TheVariants as fault
use Rattle.play_opening.specs.Play.Standing.{RecoveryFits}
use Rattle.play_lines.specs.declared.playing.Playing.{Playing}
use Rattle.play_lines.specs.Drawing.{IsLeft}
use Rattle.play_lines.specs.Showing.{PlayIs}

-- what the line of this number asks in a play: its primary may begin where the node runs
abbrev pub recovery_in : {F I O : Type 0} → Playing F I O → ℕ → BlockId → NodeId → List NodeId → Recovery
recovery_in x number block node members = record {
  primary = number;
  node = node;
  block = block;
  members = members;
  may_begin = runs_in x.player.running.items node.0;
}

-- The client of a primary that is to recover this stands behind the others, and all else is as it was.
pub record IsToRecover {F I O : Type 0} (i : link_in.Ghosts I) (o : link_out.Ghosts O) (rec : Recovery)
    (old new : Playing F I O) : Type 0 where
  pub same : new ≡ record old { player = record old.player { recoveries = new.player.recoveries } }
  pub joined : HasJoined i o rec old.player.recoveries new.player.recoveries

-- So it does, or memory ran out.
abbrev pub Recovers : {F I O : Type 0} → link_in.Ghosts I → link_out.Ghosts O → Recovery → Playing F I O →
    Playing F I O → Result (Unit {0}) PlayFault → Type 0
Recovers i o rec old new (Ok u) = IsToRecover i o rec old new
Recovers i o rec old new (Err why) = why ≡ fault.Memory

-- A primary may join a play with this: its block is one of these, its members are at most 16, none of them twice, its
-- number is above those of all others, and it may begin only where its node runs.
pub record CanJoin (p : PlayState) (blocks : List BlockId) (rec : Recovery) : Type 0 where
  pub fits : RecoveryFits p.nodes blocks rec
  pub formed : are_members rec.members ≡ true
  pub runs : RunsIfItMay (world_of p) rec
  pub above : (k : ℕ) (other : Recovery) → slice_get p.recoveries k ≡ Some other → other.primary < rec.primary

-- So what is left is the play in which this was asked.
abbrev pub RecoversArePlays : {F R I O : Type 0} → files.Ghosts F → roads.Ghosts R I O → link_in.Ghosts I →
    link_out.Ghosts O → Type 0
RecoversArePlays {F} {R} {I} {O} f r i o =
    (old new : Playing F I O) (rec : Recovery) (p : PlayState) (road : R) → IsToRecover i o rec old new →
    PlayIs f r i o p road old → CanJoin p old.player.nodes.blocks.items rec
    → IsLeft f r i o (recovering p rec) old new road
