-- How a primary begins.
use Rattle.std.proofs.Common.{Ok, Err, subst}
use Rattle.primary_events.specs.declared.beginning.PrimaryBegun.{PrimaryBegun}
use Rattle.primary_events.specs.declared.beginning.PrimaryBegun.TheVariants as beginning
use Rattle.primary_events.specs.Beginning.{BeginShows}
use Rattle.play_primaries.proofs.BegunLaws.{begun_shows}
use Rattle.play_primaries.proofs.owning.begun_at.Goals as goal

pub returns-in-Ok-Leads-clause-shows : goal.returns-in-Ok-Leads-clause-shows
returns-in-Ok-Leads-clause-shows g c =
    let S : PrimaryBegun g.row.I.Denot g.row.O.Denot → Type 0 = λ b. BeginShows g.D.Desk g.R.Roads g.I.LinkIn g.O.LinkOut c.args.primary c.begin.new.primary c.args.office.now c.begin.new.office c.args.roads.now c.begin.new.roads (Ok b) in
    begun_shows g.D.Desk g.R.Roads g.I.LinkIn g.O.LinkOut c.args.recovery.now c.args.primary c.begin.new.primary c.args.office.now c.begin.new.office c.args.roads.now c.begin.new.roads c.new-none.result c.new-none.ensures.items (Ok (beginning.Leads c.in-Ok-Leads.lowers)) c.requires.members c.requires.made
    c.begin.ensures.same.0 c.begin.ensures.same.1 (subst S c.in-Ok-Leads.field-0-is c.in-Ok-Leads.ensures.shows)

pub returns-in-Ok-Ended-clause-shows : goal.returns-in-Ok-Ended-clause-shows
returns-in-Ok-Ended-clause-shows g c =
    let S : PrimaryBegun g.row.I.Denot g.row.O.Denot → Type 0 = λ b. BeginShows g.D.Desk g.R.Roads g.I.LinkIn g.O.LinkOut c.args.primary c.begin.new.primary c.args.office.now c.begin.new.office c.args.roads.now c.begin.new.roads (Ok b) in
    begun_shows g.D.Desk g.R.Roads g.I.LinkIn g.O.LinkOut c.args.recovery.now c.args.primary c.begin.new.primary c.args.office.now c.begin.new.office c.args.roads.now c.begin.new.roads c.new-none.result c.new-none.ensures.items (Ok (beginning.Ended c.in-Ok-Ended.led)) c.requires.members c.requires.made
    c.begin.ensures.same.0 c.begin.ensures.same.1 (subst S c.in-Ok-Ended.field-0-is c.in-Ok-Ended.ensures.shows)

pub returns-in-Err-clause-shows : goal.returns-in-Err-clause-shows
returns-in-Err-clause-shows g c =
    begun_shows g.D.Desk g.R.Roads g.I.LinkIn g.O.LinkOut c.args.recovery.now c.args.primary c.begin.new.primary c.args.office.now c.begin.new.office c.args.roads.now c.begin.new.roads c.new-none.result c.new-none.ensures.items (Err c.in-Err.why) c.requires.members c.requires.made c.begin.ensures.same.0 c.begin.ensures.same.1 c.in-Err.ensures.shows
