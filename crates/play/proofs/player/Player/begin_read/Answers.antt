-- A reader asked its node.
use Rattle.std.proofs.Common.{Ok, sym, ap, ◌∙◌}
use Rattle.node_stops.proofs.PlayNodes.PlaceLaws.{none_so, element_within}
use Rattle.node_stops.proofs.PlayNodes.JoinNodes.{passes_at}
use Rattle.play_dues.specs.Readers.{read_client_place}
use Rattle.play.proofs.Dispatch.{reads, nobody_reads}
use Rattle.play.proofs.player.Player.begin_read.Goals as goal

pub returns-in_default-clause-shows : goal.returns-in_default-clause-shows
returns-in_default-clause-shows g c =
    nobody_reads g.F.Files g.R.Roads g.I.LinkIn g.O.LinkOut c.worlds_are_lawful.ensures c.args.self.now c.args.self.now c.args.roads.now c.args.roads.now (Ok tt) c.args.ask
    (ap (λ xs. read_client_place xs c.args.ask.reader) (sym c.as_slice.ensures.value) ∙ (sym c.read_client_of.ensures ∙ none_so c.read_client_of.result c.in_default.not-Some))

pub ask-requires-clause-within : goal.ask-requires-clause-within
ask-requires-clause-within g c κs within =
    let p = passes_at _ c.args.self.now.reads.clients.items c.in-Some.place (ap (λ xs. read_client_place xs c.args.ask.reader) (sym c.as_slice.ensures.value) ∙ sym c.in-Some.ensures) in
    element_within c.args.self.now.reads.clients.items c.in-Some.place p.at p.found

pub returns-clause-shows : goal.returns-clause-shows
returns-clause-shows g c =
    reads g.F.Files g.R.Roads g.I.LinkIn g.O.LinkOut c.worlds_are_lawful.ensures c.args.self.now c.ask.new.self c.args.roads.now c.ask.new.roads c.ask.result c.args.ask c.in-Some.place
    (ap (λ xs. read_client_place xs c.args.ask.reader) (sym c.as_slice.ensures.value) ∙ sym c.in-Some.ensures) c.ask.ensures.shows
