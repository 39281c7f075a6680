-- The own step ended as in the world, or memory ran out before it.
use Rattle.std.proofs.Common.{◌∙◌}
use Rattle.primary_events.proofs.LeadLaws.{lead_shows, lead_starves, lead_fails}
use Rattle.primary_events.proofs.leading.lead.Goals as goal

pub returns-in-Ok-clause-shows : goal.returns-in-Ok-clause-shows
returns-in-Ok-clause-shows g c =
    lead_shows g.D.Desk g.R.Roads g.I.LinkIn g.O.LinkOut c.primaries_ask.ensures c.primaries_step.ensures c.primaries_send.ensures c.as_slice.result.now c.args.primary.now c.led.new.primary c.args.office.now c.led.new.office c.args.roads.now c.led.new.roads
    c.led.result (c.as_slice.ensures.value ∙ c.in-Ok.ensures) c.requires.count c.led.ensures.same.0 c.led.ensures.same.1 c.led.ensures.leads

pub returns-in-Ok-clause-fails : goal.returns-in-Ok-clause-fails
returns-in-Ok-clause-fails g c =
    lead_fails g.D.Desk g.R.Roads g.I.LinkIn g.O.LinkOut c.as_slice.result.now c.args.primary.now c.led.new.primary c.args.office.now c.led.new.office c.args.roads.now c.led.new.roads c.led.result c.led.ensures.leads

pub returns-in-Err-clause-shows : goal.returns-in-Err-clause-shows
returns-in-Err-clause-shows g c = lead_starves g.D.Desk g.R.Roads g.I.LinkIn g.O.LinkOut c.args.primary.now c.args.office.now c.args.roads.now
