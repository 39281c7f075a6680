-- So many draws were made, or one found nothing that is due.
use Rattle.std.proofs.Common.{rules, Bool, Ok, subst}
use Rattle.play_lines.specs.Drawing.{DrawShows}
use Rattle.play_lines.proofs.Runs.{passes, still_playing, left_more, run_ended, run_whole, run_failed}
use Rattle.play_scripts.proofs.PlayNodes.SizeLaws.{sizes_after}
use Rattle.play_lines.proofs.playing.Playing.run.Goals as goal

pub draw-requires-after_bounds : goal.draw-requires-after_bounds
draw-requires-after_bounds g c κs within =
    still_playing g.F.Files g.R.Roads g.I.LinkIn g.O.LinkOut c.args.self.now c.loop.self c.args.roads.now c.loop.roads c.requires (λ p h. record { count = c.loop.counter; left = c.loop.invariant.left p h })

pub returns-in_err-draw-clause-shows : goal.returns-in_err-draw-clause-shows
returns-in_err-draw-clause-shows g c =
    run_failed g.F.Files g.R.Roads g.I.LinkIn g.O.LinkOut c.args.count c.loop.counter c.args.self.now c.loop.self c.draw.new.self c.args.roads.now c.loop.roads c.draw.new.roads c.in_err-draw.field-0.0 c.from_residual.result (search rules) c.loop.invariant.pass.never_falls c.loop.invariant.left c.in_err-draw.ensures.shows

pub returns-then-not-branch-clause-shows : goal.returns-then-not-branch-clause-shows
returns-then-not-branch-clause-shows g c =
    run_ended g.F.Files g.R.Roads g.I.LinkIn g.O.LinkOut c.args.count c.loop.counter c.args.self.now c.loop.self c.draw.new.self c.args.roads.now c.loop.roads c.draw.new.roads c.loop.auto.counter-end c.loop.invariant.left
    (subst (λ (b : Bool). DrawShows g.F.Files g.R.Roads g.I.LinkIn g.O.LinkOut c.loop.self c.draw.new.self c.loop.roads c.draw.new.roads (Ok b)) c.if-not-branch.true c.in_ok-draw.ensures.shows)

pub loop-preserved : goal.loop-preserved
loop-preserved g c = record {
  left = λ p h. left_more g.F.Files g.R.Roads g.I.LinkIn g.O.LinkOut p c.loop.counter c.args.self.now c.loop.self c.draw.new.self c.args.roads.now c.loop.roads c.draw.new.roads (c.loop.invariant.left p h)
      (subst (λ (b : Bool). DrawShows g.F.Files g.R.Roads g.I.LinkIn g.O.LinkOut c.loop.self c.draw.new.self c.loop.roads c.draw.new.roads (Ok b)) c.if-not-branch.false c.in_ok-draw.ensures.shows);
  sizes = sizes_after c.args.self.now.player.nodes c.loop.self.player.nodes c.draw.new.self.player.nodes c.loop.invariant.sizes c.draw.ensures.sizes;
  pass = passes g.F.Files g.R.Roads g.I.LinkIn g.O.LinkOut c.args.roads.now c.loop.roads c.draw.new.roads c.loop.invariant.pass c.in_ok-draw.ensures.pass;
}

pub returns-clause-shows : goal.returns-clause-shows
returns-clause-shows g c =
    run_whole g.F.Files g.R.Roads g.I.LinkIn g.O.LinkOut c.args.count c.loop.counter c.args.self.now c.loop.self c.args.roads.now c.loop.roads c.loop.auto.counter-end c.loop-test.false c.loop.invariant.left

pub returns-in_err-draw-clause-sizes : goal.returns-in_err-draw-clause-sizes
returns-in_err-draw-clause-sizes g c = sizes_after c.args.self.now.player.nodes c.loop.self.player.nodes c.draw.new.self.player.nodes c.loop.invariant.sizes c.draw.ensures.sizes

pub returns-then-not-branch-clause-sizes : goal.returns-then-not-branch-clause-sizes
returns-then-not-branch-clause-sizes g c = sizes_after c.args.self.now.player.nodes c.loop.self.player.nodes c.draw.new.self.player.nodes c.loop.invariant.sizes c.draw.ensures.sizes
