-- The primary that dialled heard what stood next.
use Rattle.std.specs.Vec.{with_item}
use Rattle.std.proofs.Common.{Err, refl, sym, subst}
use Rattle.play_nodes.proofs.PlaceLaws.{none_so, element_some}
use Rattle.play_recoveries.specs.declared.faults.RecoveriesFault.{RecoveriesFault}
use Rattle.play_recoveries.specs.Dues.{TellsClient}
use Rattle.play_recoveries.specs.Hearing.{HearShows}
use Rattle.play_recoveries.proofs.ClientLaws.{client_ready, seats_ready}
use Rattle.play_recoveries.proofs.HeardLaws.{hear_none, hear_left, hear_failed}
use Rattle.play_recoveries.proofs.recoveries.Recoveries.hear.Goals as goal

pub returns-in_default-clause-shows : goal.returns-in_default-clause-shows
returns-in_default-clause-shows g c =
    hear_none g.F.Files g.R.Roads g.I.LinkIn g.O.LinkOut c.args.conn c.args.nodes.now c.args.self.now c.args.roads.now
    (subst (λ x. TellsClient g.I.LinkIn g.O.LinkOut c.args.conn c.args.nodes.now c.args.self.now x) (none_so c.client_at.result c.in_default.not-Some) c.client_at.ensures.tells)

pub hear-requires-after_bounds : goal.hear-requires-after_bounds
hear-requires-after_bounds g c κs within =
    client_ready g.R.Roads g.I.LinkIn g.O.LinkOut c.args.roads.now c.args.nodes.now c.args.self.now c.in-Some.leader.client c.index_mut.result.now c.requires
    (element_some c.args.self.now.clients.items c.in-Some.leader.client c.index_mut.result.now c.in-Some.ensures.within c.index_mut.ensures.value)

pub returns-in-Ok-clause-shows : goal.returns-in-Ok-clause-shows
returns-in-Ok-clause-shows g c =
    hear_left g.F.Files g.R.Roads g.I.LinkIn g.O.LinkOut c.args.conn c.args.nodes.now c.args.self.now c.in-Some.leader c.index_mut.result.now c.in-Some.ensures.tells
    (element_some c.args.self.now.clients.items c.in-Some.leader.client c.index_mut.result.now c.in-Some.ensures.within c.index_mut.ensures.value)
    _ c.hear.new.self c.args.roads.now c.hear.new.roads c.primary_clients_stay.ensures c.nodes_stay.ensures c.primaries_keep_nodes.ensures.hears c.primaries_keep_others.ensures.hears refl refl
    (seats_ready (g.R.Roads.plain c.hear.new.roads) c.hear.new.self.state c.hear.ensures.passes.ready) c.in-Ok.ensures.shows

pub returns-in-Err-clause-shows : goal.returns-in-Err-clause-shows
returns-in-Err-clause-shows g c =
    let now = record c.args.self.now { clients = with_item c.args.self.now.clients c.in-Some.leader.client c.hear.new.self } in
    subst (λ (y : RecoveriesFault). HearShows g.F.Files g.R.Roads g.I.LinkIn g.O.LinkOut c.args.conn c.args.nodes.now c.args.self.now now c.args.roads.now c.hear.new.roads (Err y)) (sym c.of_primary.ensures)
    (hear_failed g.F.Files g.R.Roads g.I.LinkIn g.O.LinkOut c.args.conn c.args.nodes.now c.args.self.now c.in-Some.leader c.index_mut.result.now c.in-Some.ensures.tells
    (element_some c.args.self.now.clients.items c.in-Some.leader.client c.index_mut.result.now c.in-Some.ensures.within c.index_mut.ensures.value)
    now c.hear.new.self c.args.roads.now c.hear.new.roads c.in-Err.fault c.in-Err.ensures.shows)

pub returns-in-Ok-clause-pass : goal.returns-in-Ok-clause-pass
returns-in-Ok-clause-pass g c = c.hear.ensures.passes.pass

pub returns-in-Err-clause-pass : goal.returns-in-Err-clause-pass
returns-in-Err-clause-pass g c = c.hear.ensures.passes.pass
