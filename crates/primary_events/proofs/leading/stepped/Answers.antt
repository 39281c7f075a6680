-- The step was done.
use Rattle.std.proofs.Common.{ap, ◌∙◌}
use Rattle.primary_events.specs.Leading.{led_as}
use Rattle.primary_events.proofs.PassLaws.{lead_passes}
use Rattle.primary_events.proofs.leading.stepped.Goals as goal

pub returns-clause-steps : goal.returns-clause-steps
returns-clause-steps g c = record {
  did = c.lead_on-step.result;
  leads = c.lead_on-step.ensures.leads;
  is = c.led_as.ensures ∙ ap (led_as c.lead_on-step.result) c.has_lost_any.ensures;
}

pub returns-clause-pass : goal.returns-clause-pass
returns-clause-pass g c =
    lead_passes g.D.Desk g.R.Roads g.I.LinkIn g.O.LinkOut c.args.primary.now c.lead_on-step.new.self c.args.office.now c.lead_on-step.new.office c.args.roads.now c.lead_on-step.new.roads c.lead_on-step.result c.lead_on-step.ensures.leads
