-- The first step was done.
use Rattle.std.proofs.Common.{ap, ◌∙◌}
use Rattle.primary_events.specs.Leading.{led_as}
use Rattle.primary_events.proofs.BeginPassLaws.{start_passes}
use Rattle.primary_events.proofs.beginning.started.Goals as goal

pub returns-clause-begins : goal.returns-clause-begins
returns-clause-begins g c = record {
  did = c.begin-step.result;
  starts = c.begin-step.ensures.starts;
  is = c.led_as.ensures ∙ ap (led_as c.begin-step.result) c.has_lost_any.ensures;
}

pub returns-clause-pass : goal.returns-clause-pass
returns-clause-pass g c =
    start_passes g.D.Desk g.R.Roads g.I.LinkIn g.O.LinkOut c.args.primary.now c.begin-step.new.self c.args.office.now c.begin-step.new.office c.args.roads.now c.begin-step.new.roads c.begin-step.result c.begin-step.ensures.starts
