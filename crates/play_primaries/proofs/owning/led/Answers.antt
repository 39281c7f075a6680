-- A primary that leads goes on.
use Rattle.std.proofs.Common.{Ok, Err, subst}
use Rattle.primary_events.specs.BlockRecovery.PrimaryStep.{PrimaryStep}
use Rattle.primary_events.specs.BlockRecovery.PrimaryStep.TheVariants as step
use Rattle.primary_events.specs.Leading.{LeadShows}
use Rattle.play_primaries.proofs.LedLaws.{led_shows}
use Rattle.play_primaries.proofs.owning.led.Goals as goal

pub returns-in-Ok-Ended-clause-shows : goal.returns-in-Ok-Ended-clause-shows
returns-in-Ok-Ended-clause-shows g c =
    let S : PrimaryStep → Type 0 = λ s. LeadShows g.D.Desk g.R.Roads g.I.LinkIn g.O.LinkOut c.args.primary c.lead.new.primary c.args.office.now c.lead.new.office c.args.roads.now c.lead.new.roads (Ok s) in
    led_shows g.D.Desk g.R.Roads g.I.LinkIn g.O.LinkOut c.primaries_can_lead.ensures c.args.recovery.now c.args.primary c.lead.new.primary c.args.office.now c.lead.new.office c.args.roads.now c.lead.new.roads c.new-none.result c.new-none.ensures.items (Ok (step.Ended c.in-Ok-Ended.led))
    c.lead.ensures.same.0 c.lead.ensures.same.1 (subst S c.in-Ok-Ended.field-0-is c.in-Ok-Ended.ensures.shows)

pub returns-in-Ok-Moved-clause-shows : goal.returns-in-Ok-Moved-clause-shows
returns-in-Ok-Moved-clause-shows g c =
    let S : PrimaryStep → Type 0 = λ s. LeadShows g.D.Desk g.R.Roads g.I.LinkIn g.O.LinkOut c.args.primary c.lead.new.primary c.args.office.now c.lead.new.office c.args.roads.now c.lead.new.roads (Ok s) in
    led_shows g.D.Desk g.R.Roads g.I.LinkIn g.O.LinkOut c.primaries_can_lead.ensures c.args.recovery.now c.args.primary c.lead.new.primary c.args.office.now c.lead.new.office c.args.roads.now c.lead.new.roads c.new-none.result c.new-none.ensures.items (Ok step.Moved)
    c.lead.ensures.same.0 c.lead.ensures.same.1 (subst S c.in-Ok-Moved.field-0-is c.in-Ok-Moved.ensures.shows)

pub returns-in-Ok-Waiting-clause-shows : goal.returns-in-Ok-Waiting-clause-shows
returns-in-Ok-Waiting-clause-shows g c =
    let S : PrimaryStep → Type 0 = λ s. LeadShows g.D.Desk g.R.Roads g.I.LinkIn g.O.LinkOut c.args.primary c.lead.new.primary c.args.office.now c.lead.new.office c.args.roads.now c.lead.new.roads (Ok s) in
    led_shows g.D.Desk g.R.Roads g.I.LinkIn g.O.LinkOut c.primaries_can_lead.ensures c.args.recovery.now c.args.primary c.lead.new.primary c.args.office.now c.lead.new.office c.args.roads.now c.lead.new.roads c.new-none.result c.new-none.ensures.items (Ok step.Waiting)
    c.lead.ensures.same.0 c.lead.ensures.same.1 (subst S c.in-Ok-Waiting.field-0-is c.in-Ok-Waiting.ensures.shows)

pub returns-in-Err-clause-shows : goal.returns-in-Err-clause-shows
returns-in-Err-clause-shows g c = led_shows g.D.Desk g.R.Roads g.I.LinkIn g.O.LinkOut c.primaries_can_lead.ensures c.args.recovery.now c.args.primary c.lead.new.primary c.args.office.now c.lead.new.office c.args.roads.now c.lead.new.roads c.new-none.result c.new-none.ensures.items (Err c.in-Err.why) c.lead.ensures.same.0 c.lead.ensures.same.1 c.in-Err.ensures.shows
