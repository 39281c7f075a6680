-- Nothing is due any more.
use Rattle.std.proofs.Common.{rules, Bool, Ok, refl, subst, arith}
use Rattle.play_lines.specs.Drawing.{DrawShows}
use Rattle.play_lines.proofs.Runs.{passes, still_playing, after_more, settle_ended, settle_failed}
use Rattle.play_lines.proofs.Lowers.{smaller}
use Rattle.play_scripts.proofs.PlayNodes.SizeLaws.{sizes_same, sizes_after}
use Rattle.play_lines.proofs.playing.Playing.settle.Goals as goal

pub draw-requires-after_bounds : goal.draw-requires-after_bounds
draw-requires-after_bounds g c κs within =
    still_playing g.F.Files g.R.Roads g.I.LinkIn g.O.LinkOut c.args.self.now c.loop.self c.args.roads.now c.loop.roads c.requires c.loop.invariant.left

pub returns-in_err-draw-clause-shows : goal.returns-in_err-draw-clause-shows
returns-in_err-draw-clause-shows g c =
    settle_failed g.F.Files g.R.Roads g.I.LinkIn g.O.LinkOut c.args.self.now c.loop.self c.draw.new.self c.args.roads.now c.loop.roads c.draw.new.roads c.in_err-draw.field-0.0 c.from_residual.result (search rules) c.loop.invariant.pass.never_falls c.loop.invariant.left c.in_err-draw.ensures.shows

pub loop-smaller : goal.loop-smaller
loop-smaller g c =
    smaller g.F.Files g.R.Roads g.I.LinkIn g.O.LinkOut c.worlds_are_lawful.ensures c.listed_dues_are_due.ensures c.plays_lower.ensures c.loop.self c.draw.new.self c.loop.roads c.draw.new.roads
    (still_playing g.F.Files g.R.Roads g.I.LinkIn g.O.LinkOut c.args.self.now c.loop.self c.args.roads.now c.loop.roads c.requires c.loop.invariant.left)
    (subst (λ (b : Bool). DrawShows g.F.Files g.R.Roads g.I.LinkIn g.O.LinkOut c.loop.self c.draw.new.self c.loop.roads c.draw.new.roads (Ok b)) c.if-branch.true c.in_ok-draw.ensures.shows)

pub loop-preserved : goal.loop-preserved
loop-preserved g c = record {
  left = after_more g.F.Files g.R.Roads g.I.LinkIn g.O.LinkOut c.args.self.now c.loop.self c.draw.new.self c.args.roads.now c.loop.roads c.draw.new.roads c.loop.invariant.left
      (subst (λ (b : Bool). DrawShows g.F.Files g.R.Roads g.I.LinkIn g.O.LinkOut c.loop.self c.draw.new.self c.loop.roads c.draw.new.roads (Ok b)) c.if-branch.true c.in_ok-draw.ensures.shows);
  sizes = sizes_after c.args.self.now.player.nodes c.loop.self.player.nodes c.draw.new.self.player.nodes c.loop.invariant.sizes c.draw.ensures.sizes;
  pass = passes g.F.Files g.R.Roads g.I.LinkIn g.O.LinkOut c.args.roads.now c.loop.roads c.draw.new.roads c.loop.invariant.pass c.draw.ensures.pass;
}

pub returns-clause-shows : goal.returns-clause-shows
returns-clause-shows g c =
    settle_ended g.F.Files g.R.Roads g.I.LinkIn g.O.LinkOut c.args.self.now c.loop.self c.draw.new.self c.args.roads.now c.loop.roads c.draw.new.roads c.loop.invariant.left
    (subst (λ (b : Bool). DrawShows g.F.Files g.R.Roads g.I.LinkIn g.O.LinkOut c.loop.self c.draw.new.self c.loop.roads c.draw.new.roads (Ok b)) c.if-branch.false c.in_ok-draw.ensures.shows)

pub loop-init : goal.loop-init
loop-init g c = record {
  left = λ p h. record { count = 0; left = record { is = h; blocks = refl; given = λ b k. refl } };
  sizes = sizes_same c.args.self.now.player.nodes;
  pass = record { knows = λ n e. e; never_falls = omega arith };
}

pub returns-in_err-draw-clause-sizes : goal.returns-in_err-draw-clause-sizes
returns-in_err-draw-clause-sizes g c = sizes_after c.args.self.now.player.nodes c.loop.self.player.nodes c.draw.new.self.player.nodes c.loop.invariant.sizes c.draw.ensures.sizes

pub returns-clause-sizes : goal.returns-clause-sizes
returns-clause-sizes g c = sizes_after c.args.self.now.player.nodes c.loop.self.player.nodes c.draw.new.self.player.nodes c.loop.invariant.sizes c.draw.ensures.sizes
