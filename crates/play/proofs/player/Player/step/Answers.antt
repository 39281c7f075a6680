-- A writer took its own step.
use Rattle.std.proofs.Common.{Ok, refl, sym, ap, ◌∙◌}
use Rattle.node_stops.proofs.PlayNodes.PlaceLaws.{none_so}
use Rattle.play_dues.specs.Places.{client_place}
use Rattle.play_dues.proofs.UpperLaws.{client_within}
use Rattle.play.proofs.Dispatch.{steps, nobody_steps}
use Rattle.play.proofs.player.Player.step.Goals as goal

pub returns-in_default-clause-shows : goal.returns-in_default-clause-shows
returns-in_default-clause-shows g c =
    nobody_steps g.F.Files g.R.Roads g.I.LinkIn g.O.LinkOut c.worlds_are_lawful.ensures c.args.self.now c.args.self.now c.args.roads.now c.args.roads.now (Ok tt) c.args.block
    (ap (λ xs. client_place xs c.args.block.0) (sym c.as_slice.ensures.value) ∙ (sym c.client_of.ensures ∙ none_so c.client_of.result c.in_default.not-Some))

pub own-requires-clause-within : goal.own-requires-clause-within
own-requires-clause-within g c κs within = client_within c.args.self.now.clients.items c.args.block.0 c.in-Some.place (client_place c.args.self.now.clients.items c.args.block.0) refl (ap (λ xs. client_place xs c.args.block.0) (sym c.as_slice.ensures.value) ∙ sym c.in-Some.ensures)

pub returns-clause-shows : goal.returns-clause-shows
returns-clause-shows g c =
    steps g.F.Files g.R.Roads g.I.LinkIn g.O.LinkOut c.worlds_are_lawful.ensures c.args.self.now c.own.new.self c.args.roads.now c.own.new.roads c.own.result c.args.block c.in-Some.place (ap (λ xs. client_place xs c.args.block.0) (sym c.as_slice.ensures.value) ∙ sym c.in-Some.ensures) c.own.ensures.shows
