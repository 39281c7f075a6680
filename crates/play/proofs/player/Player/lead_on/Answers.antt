-- A primary took its own step.
use Rattle.std.proofs.Common.{Ok, sym, ap, ◌∙◌}
use Rattle.node_stops.proofs.PlayNodes.PlaceLaws.{none_so, element_within}
use Rattle.node_stops.proofs.PlayNodes.JoinNodes.{passes_at}
use Rattle.play_dues.specs.Primaries.{primary_client_place}
use Rattle.play.proofs.Dispatch.{leads_on, nobody_leads}
use Rattle.play.proofs.player.Player.lead_on.Goals as goal

pub returns-in_default-clause-shows : goal.returns-in_default-clause-shows
returns-in_default-clause-shows g c =
    nobody_leads g.F.Files g.R.Roads g.I.LinkIn g.O.LinkOut c.worlds_are_lawful.ensures c.args.self.now c.args.self.now c.args.roads.now c.args.roads.now (Ok tt) c.args.recovery.now
    (ap (λ xs. primary_client_place xs c.args.recovery.now.primary) (sym c.as_slice-clients.ensures.value) ∙ (sym c.primary_client_of.ensures ∙ none_so c.primary_client_of.result c.in_default.not-Some))

pub lead-requires-clause-within : goal.lead-requires-clause-within
lead-requires-clause-within g c κs within =
    let p = passes_at _ c.args.self.now.recoveries.clients.items c.in-Some.place (ap (λ xs. primary_client_place xs c.args.recovery.now.primary) (sym c.as_slice-clients.ensures.value) ∙ sym c.in-Some.ensures) in
    element_within c.args.self.now.recoveries.clients.items c.in-Some.place p.at p.found

pub returns-clause-shows : goal.returns-clause-shows
returns-clause-shows g c =
    leads_on g.F.Files g.R.Roads g.I.LinkIn g.O.LinkOut c.worlds_are_lawful.ensures c.args.self.now c.lead.new.self c.args.roads.now c.lead.new.roads c.lead.result c.args.recovery.now c.in-Some.place
    (ap (λ xs. primary_client_place xs c.args.recovery.now.primary) (sym c.as_slice-clients.ensures.value) ∙ sym c.in-Some.ensures) c.lead.ensures.shows
