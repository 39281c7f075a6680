-- The primary of the client at a place took its own step.
use Rattle.std.specs.Vec.{with_item}
use Rattle.std.proofs.Common.{Err, refl, sym, subst}
use Rattle.play_nodes.proofs.PlaceLaws.{element_some}
use Rattle.play_nodes.proofs.Tables.{set_here}
use Rattle.play_recoveries.specs.declared.faults.RecoveriesFault.{RecoveriesFault}
use Rattle.play_recoveries.specs.Owning.{OwnShows}
use Rattle.play_recoveries.proofs.ClientLaws.{client_ready, seats_ready}
use Rattle.play_recoveries.proofs.OwnedLaws.{own_reached, own_failed}
use Rattle.play_recoveries.proofs.recoveries.Recoveries.own.Goals as goal

pub own-requires-after_bounds : goal.own-requires-after_bounds
own-requires-after_bounds g c κs within =
    client_ready g.R.Roads g.I.LinkIn g.O.LinkOut c.args.roads.now c.args.nodes.now c.args.self.now c.args.place c.index_mut.result.now c.requires.stands
    (element_some c.args.self.now.clients.items c.args.place c.index_mut.result.now c.requires.within c.index_mut.ensures.value)

pub returns-in-Ok-clause-shows : goal.returns-in-Ok-clause-shows
returns-in-Ok-clause-shows g c =
    let x = c.args.self.now in
    let mid = record x { clients = with_item x.clients c.args.place c.own.new.self } in
    let at = element_some x.clients.items c.args.place c.index_mut.result.now c.requires.within c.index_mut.ensures.value in
    own_reached g.D.Desk g.F.Files g.R.Roads g.I.LinkIn g.O.LinkOut c.args.running.now c.args.place c.args.nodes.now c.reach.new.nodes x mid c.reach.new.self c.index_mut.result.now c.own.new.self at
    c.args.office.now c.own.new.office c.args.roads.now c.own.new.roads c.in-Ok.lowers c.reach.result c.primary_clients_stay.ensures c.primaries_keep_others.ensures.owns c.primaries_keep_nodes.ensures.owns refl refl
    (seats_ready (g.R.Roads.plain c.own.new.roads) c.own.new.self.state c.own.ensures.passes.ready) c.own.ensures.recovery (set_here x.clients.items c.args.place c.index_mut.result.now c.own.new.self at)
    c.in-Ok.ensures.shows c.reach.ensures.reaches

pub returns-in-Err-clause-shows : goal.returns-in-Err-clause-shows
returns-in-Err-clause-shows g c =
    let x = c.args.self.now in
    let now = record x { clients = with_item x.clients c.args.place c.own.new.self } in
    let at = element_some x.clients.items c.args.place c.index_mut.result.now c.requires.within c.index_mut.ensures.value in
    subst (λ (y : RecoveriesFault). OwnShows g.D.Desk g.F.Files g.R.Roads g.I.LinkIn g.O.LinkOut c.args.running.now c.args.place c.args.nodes.now c.args.nodes.now x now c.args.office.now c.own.new.office c.args.roads.now c.own.new.roads (Err y)) (sym c.of_primary.ensures)
    (own_failed g.D.Desk g.F.Files g.R.Roads g.I.LinkIn g.O.LinkOut c.args.running.now c.args.place c.args.nodes.now c.args.nodes.now x now now c.index_mut.result.now c.own.new.self at
    c.args.office.now c.own.new.office c.args.roads.now c.own.new.roads c.in-Err.fault c.in-Err.ensures.shows)

pub returns-in-Ok-clause-pass : goal.returns-in-Ok-clause-pass
returns-in-Ok-clause-pass g c = c.own.ensures.passes.pass

pub returns-in-Err-clause-pass : goal.returns-in-Err-clause-pass
returns-in-Err-clause-pass g c = c.own.ensures.passes.pass
