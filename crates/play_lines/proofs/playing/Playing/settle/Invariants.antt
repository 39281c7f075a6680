-- Draws were made, each of which leaves less to be done.
use Rattle.play_scripts.specs.MemberEvents.Roads.{RoadsPass}
use Rattle.play_model.specs.States.{PlayState}
use Rattle.play_scripts.specs.PlayNodes.Places.{KeepsSizes}
use Rattle.play_lines.specs.Showing.{PlayIs}
use Rattle.play_lines.proofs.Lowers.{weight_in}
use Rattle.play_lines.proofs.Runs.{AfterDraws}
use Rattle.play_lines.proofs.playing.Playing.settle.Given as goal

abbrev pub invariant-loop : goal.invariant-loop
invariant-loop g l = record {
  left : (p : PlayState) → PlayIs g.F.Files g.R.Roads g.I.LinkIn g.O.LinkOut p l.fn.roads l.fn.self → AfterDraws g.F.Files g.R.Roads g.I.LinkIn g.O.LinkOut p l.fn.self l.self l.roads;
  sizes : KeepsSizes l.fn.self.player.nodes l.self.player.nodes;
  pass : RoadsPass g.R.Roads l.fn.roads l.roads;
}

abbrev pub decreases-loop : goal.decreases-loop
decreases-loop g l = weight_in l.self
