-- A line that gives no command is played.
use Rattle.std.proofs.Common.{refl}
use Rattle.play_scripts.proofs.MemberEvents.SetupKnown.{pass_same}
use Rattle.play_lines.proofs.Lined.{rule_shows, run_shows, settle_shows, step_shows, cut_shows, stop_shows, idle_shows, is_other}
use Rattle.play_scripts.proofs.PlayNodes.SizeLaws.{sizes_same}
use Rattle.play_lines.proofs.playing.Playing.event.Goals as goal

pub returns-in-Sums-clause-shows : goal.returns-in-Sums-clause-shows
returns-in-Sums-clause-shows g c =
    rule_shows g.F.Files g.R.Roads g.I.LinkIn g.O.LinkOut c.args.self.now c.rule.new.self c.args.roads.now c.in-Sums.block c.in-Sums.rule c.rules_are_plays.ensures c.args.line.now c.in-Sums.is c.rule.ensures.rules

pub returns-in-Run-clause-shows : goal.returns-in-Run-clause-shows
returns-in-Run-clause-shows g c =
    run_shows g.F.Files g.R.Roads g.I.LinkIn g.O.LinkOut c.args.self.now c.run.new.self c.args.roads.now c.run.new.roads c.args.line.now c.in-Run.events c.run.result c.in-Run.is c.run.ensures.shows

pub returns-in-Settle-clause-shows : goal.returns-in-Settle-clause-shows
returns-in-Settle-clause-shows g c =
    settle_shows g.F.Files g.R.Roads g.I.LinkIn g.O.LinkOut c.args.self.now c.settle.new.self c.args.roads.now c.settle.new.roads c.args.line.now c.settle.result c.in-Settle.is c.settle.ensures.shows

pub returns-in-Step-clause-shows : goal.returns-in-Step-clause-shows
returns-in-Step-clause-shows g c =
    step_shows g.F.Files g.R.Roads g.I.LinkIn g.O.LinkOut c.args.self.now c.step.new.self c.args.roads.now c.step.new.roads c.args.line.now c.in-Step.block c.in-Step.event c.step.result c.in-Step.is c.step.ensures.shows

pub returns-in-Cut-clause-shows : goal.returns-in-Cut-clause-shows
returns-in-Cut-clause-shows g c =
    cut_shows g.F.Files g.R.Roads g.I.LinkIn g.O.LinkOut c.args.self.now c.cut.new.self c.args.roads.now c.cut.new.roads c.args.line.now c.in-Cut.block c.in-Cut.connection c.in-Cut.down c.in-Cut.up c.cut.result c.in-Cut.is (λ p h. c.cut.ensures.shows p h)

pub returns-in-Stop-clause-shows : goal.returns-in-Stop-clause-shows
returns-in-Stop-clause-shows g c =
    stop_shows g.F.Files g.R.Roads g.I.LinkIn g.O.LinkOut c.args.self.now c.stop.new.self c.args.roads.now c.stop.new.roads c.args.line.now c.in-Stop.node c.stop.result c.in-Stop.is (λ p h. c.stop.ensures.shows p h)

pub returns-in_default : goal.returns-in_default
returns-in_default g c = record {
  shows = idle_shows g.F.Files g.R.Roads g.I.LinkIn g.O.LinkOut c.args.self.now c.args.roads.now c.args.line.now c.requires.none
      (is_other c.args.line.now (λ b rule. c.in_default.not-Sums b rule) (λ count. c.in_default.not-Run count) c.in_default.not-Settle (λ b event. c.in_default.not-Step b event) (λ b place down up. c.in_default.not-Cut b place down up) (λ n. c.in_default.not-Stop n) c.requires.other c.requires.arms_nothing c.requires.asks_nothing c.requires.recovers_nothing);
  sizes = sizes_same c.args.self.now.player.nodes;
  pass = pass_same g.R.Roads g.I.LinkIn g.O.LinkOut c.args.roads.now c.args.roads.now refl;
}
