-- What the primary heard.
use Rattle.std.proofs.Common.{sym, subst}
use Rattle.play_primaries.specs.declared.clients.PrimaryState.{PrimaryState}
use Rattle.play_primaries.specs.declared.clients.PrimaryState.TheVariants as state
use Rattle.play_primaries.specs.Hearing.{HearShows}
use Rattle.play_primaries.proofs.HearLaws.{hear_leads}
use Rattle.play_primaries.proofs.clients.PrimaryClient.hear.Goals as goal

pub returns-in-Leads-clause-shows : goal.returns-in-Leads-clause-shows
returns-in-Leads-clause-shows g c =
    let S : PrimaryState g.row.I.Denot g.row.O.Denot → Type 0 =
    λ st. HearShows g.R.Roads g.I.LinkIn g.O.LinkOut c.args.place (record { recovery = c.args.self.now.recovery; state = st }) (record { recovery = c.args.self.now.recovery; state = state.Leads c.hear.new.primary }) c.args.roads.now c.hear.new.roads c.hear.result in
    subst S (sym c.in-Leads.is) (hear_leads g.R.Roads g.I.LinkIn g.O.LinkOut c.primaries_can_hear.ensures c.args.self.now.recovery c.args.place _ c.hear.new.primary c.args.roads.now c.hear.new.roads c.hear.result c.hear.ensures.same.0 c.hear.ensures.same.1 c.hear.ensures.shows)
