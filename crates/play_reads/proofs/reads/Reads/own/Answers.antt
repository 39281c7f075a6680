-- The reader asked its node.
use Rattle.std.specs.Vec.{with_item}
use Rattle.std.proofs.Common.{Err, refl, sym, ap, ◌∙◌, subst}
use Rattle.play_nodes.proofs.PlaceLaws.{element_some, same_some}
use Rattle.play_reads.specs.declared.faults.ReadsFault.{ReadsFault}
use Rattle.play_reads.specs.Owning.{OwnShows}
use Rattle.play_reads.proofs.OwnLaws.{own_reached, own_unreached, own_failed}
use Rattle.play_reads.proofs.reads.Reads.own.Goals as goal

pub returns-in-Ok-Some-clause-shows : goal.returns-in-Ok-Some-clause-shows
returns-in-Ok-Some-clause-shows g c =
    let x = c.args.self.now in
    let at = element_some x.clients.items c.args.place c.index_mut.result.now c.requires.within c.index_mut.ensures.value in
    let first = element_some x.clients.items c.args.place c.index.result.now c.requires.within c.index.ensures in
    own_reached g.F.Files g.R.Roads g.I.LinkIn g.O.LinkOut c.args.place c.args.nodes.now c.reach.new.nodes x (record x { clients = with_item x.clients c.args.place c.own.new.self }) c.reach.new.self c.index_mut.result.now c.own.new.self c.index.result.now.ask c.in-Ok-Some.end
    c.args.roads.now c.own.new.roads c.reach.result (ap (λ y. y.ask) (same_some c.index.result.now c.index_mut.result.now (sym first ∙ at))) c.read_clients_stay.ensures c.readers_keep_nodes.ensures.asks c.readers_keep_others.ensures.asks at refl refl
    (rw c.in-Ok-Some.field-0-is at c.in-Ok-Some.ensures.shows) c.reach.ensures.reaches

pub returns-in-Ok-None-clause-shows : goal.returns-in-Ok-None-clause-shows
returns-in-Ok-None-clause-shows g c =
    let x = c.args.self.now in
    let at = element_some x.clients.items c.args.place c.index_mut.result.now c.requires.within c.index_mut.ensures.value in
    own_unreached g.F.Files g.R.Roads g.I.LinkIn g.O.LinkOut c.args.place c.args.nodes.now x (record x { clients = with_item x.clients c.args.place c.own.new.self }) c.index_mut.result.now c.own.new.self
    c.args.roads.now c.own.new.roads c.read_clients_stay.ensures c.nodes_stay.ensures c.readers_keep_nodes.ensures.asks c.readers_keep_others.ensures.asks at refl refl
    (rw c.in-Ok-None.field-0-is at c.in-Ok-None.ensures.shows)

pub returns-in-Err-clause-shows : goal.returns-in-Err-clause-shows
returns-in-Err-clause-shows g c =
    let x = c.args.self.now in
    let now = record x { clients = with_item x.clients c.args.place c.own.new.self } in
    let at = element_some x.clients.items c.args.place c.index_mut.result.now c.requires.within c.index_mut.ensures.value in
    subst (λ (y : ReadsFault). OwnShows g.F.Files g.R.Roads g.I.LinkIn g.O.LinkOut c.args.place c.args.nodes.now c.args.nodes.now x now c.args.roads.now c.own.new.roads (Err y)) (sym c.of_reader.ensures)
    (own_failed g.F.Files g.R.Roads g.I.LinkIn g.O.LinkOut c.args.place c.args.nodes.now c.args.nodes.now x now c.index_mut.result.now c.own.new.self c.args.roads.now c.own.new.roads c.in-Err.fault at c.in-Err.ensures.shows)
