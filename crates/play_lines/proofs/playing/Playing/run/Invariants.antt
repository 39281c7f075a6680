-- So many draws were made.
use Rattle.play_scripts.specs.MemberEvents.Roads.{RoadsPass}
use Rattle.play_model.specs.Draws.{draws}
use Rattle.play_model.specs.States.{PlayState}
use Rattle.play_lines.specs.Drawing.{blocks_in, IsDrawn}
use Rattle.play_scripts.specs.PlayNodes.Places.{KeepsSizes}
use Rattle.play_lines.specs.Showing.{PlayIs}
use Rattle.play_lines.proofs.playing.Playing.run.Given as goal

abbrev pub invariant-loop : goal.invariant-loop
invariant-loop g l = record {
  left : (p : PlayState) → PlayIs g.F.Files g.R.Roads g.I.LinkIn g.O.LinkOut p l.fn.roads l.fn.self → IsDrawn g.F.Files g.R.Roads g.I.LinkIn g.O.LinkOut p (draws (blocks_in l.fn.self) l.counter p) l.fn.self l.self l.roads;
  sizes : KeepsSizes l.fn.self.player.nodes l.self.player.nodes;
  pass : RoadsPass g.R.Roads l.fn.roads l.roads;
}
