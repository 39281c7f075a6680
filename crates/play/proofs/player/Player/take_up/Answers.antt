-- An end took what stood next from below.
use Rattle.std.proofs.Common.{Ok, refl, sym, ap, ◌∙◌}
use Rattle.node_stops.proofs.PlayNodes.PlaceLaws.{none_so}
use Rattle.play_dues.specs.Places.{client_place}
use Rattle.play_dues.proofs.UpperLaws.{client_within}
use Rattle.play.proofs.Dispatch.{away_up, mirrors, hears, nobody_hears}
use Rattle.play.proofs.player.Player.take_up.Goals as goal

pub returns-then-is_elsewhere-clause-shows : goal.returns-then-is_elsewhere-clause-shows
returns-then-is_elsewhere-clause-shows g c =
    away_up g.F.Files g.R.Roads g.I.LinkIn g.O.LinkOut c.worlds_are_lawful.ensures c.args.self.now c.elsewhere_up.new.self c.args.roads.now c.elsewhere_up.new.roads c.elsewhere_up.result c.args.conn c.is_elsewhere.result c.if-is_elsewhere.true c.is_elsewhere.ensures.tells c.elsewhere_up.ensures.shows

pub returns-in_default-clause-shows : goal.returns-in_default-clause-shows
returns-in_default-clause-shows g c =
    mirrors g.F.Files g.R.Roads g.I.LinkIn g.O.LinkOut c.worlds_are_lawful.ensures c.args.self.now c.mirror_up.new.self c.args.roads.now c.mirror_up.new.roads c.mirror_up.result c.args.conn c.is_elsewhere.result c.if-is_elsewhere.false c.is_elsewhere.ensures.tells (sym c.writer_of.ensures ∙ none_so c.writer_of.result c.in_default.not-Some) c.mirror_up.ensures.shows

pub returns-in_default-client_of-clause-shows : goal.returns-in_default-client_of-clause-shows
returns-in_default-client_of-clause-shows g c =
    nobody_hears g.F.Files g.R.Roads g.I.LinkIn g.O.LinkOut c.worlds_are_lawful.ensures c.args.self.now c.args.self.now c.args.roads.now c.args.roads.now (Ok tt) c.args.conn c.is_elsewhere.result c.in-Some.block c.if-is_elsewhere.false c.is_elsewhere.ensures.tells (sym c.in-Some.ensures)
    (ap (λ xs. client_place xs c.in-Some.block.0) (sym c.as_slice.ensures.value) ∙ (sym c.client_of.ensures ∙ none_so c.client_of.result c.in_default-client_of.not-Some))

pub hear-requires-clause-within : goal.hear-requires-clause-within
hear-requires-clause-within g c κs within = client_within c.args.self.now.clients.items c.in-Some.block.0 c.in-Some-client_of.place (client_place c.args.self.now.clients.items c.in-Some.block.0) refl (ap (λ xs. client_place xs c.in-Some.block.0) (sym c.as_slice.ensures.value) ∙ sym c.in-Some-client_of.ensures)

pub returns-clause-shows : goal.returns-clause-shows
returns-clause-shows g c =
    hears g.F.Files g.R.Roads g.I.LinkIn g.O.LinkOut c.worlds_are_lawful.ensures c.args.self.now c.hear.new.self c.args.roads.now c.hear.new.roads c.hear.result c.args.conn c.is_elsewhere.result c.in-Some.block c.in-Some-client_of.place c.if-is_elsewhere.false c.is_elsewhere.ensures.tells (sym c.in-Some.ensures) (ap (λ xs. client_place xs c.in-Some.block.0) (sym c.as_slice.ensures.value) ∙ sym c.in-Some-client_of.ensures) c.hear.ensures.shows
