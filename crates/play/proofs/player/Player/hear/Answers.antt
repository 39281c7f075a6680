-- A writer heard what stood next, and the event was kept.
use Rattle.std.specs.Vec.{with_item}
use Rattle.std.proofs.Common.{refl, sym, subst, Err}
use Rattle.node_stops.proofs.PlayNodes.PlaceLaws.{element_some}
use Rattle.play.specs.declared.faults.PlayFault.{PlayFault}
use Rattle.play.specs.Events.{HeardShows}
use Rattle.play.proofs.HearSteps.{heard_left, heard_failed, client_known}
use Rattle.play.proofs.player.Player.hear.Goals as goal

pub hear-requires-after_bounds : goal.hear-requires-after_bounds
hear-requires-after_bounds g c κs within =
    client_known g.R.Roads g.I.LinkIn g.O.LinkOut c.args.roads.now c.args.self.now c.args.place c.index_mut.result.now c.requires.stands
    (element_some c.args.self.now.clients.items c.args.place c.index_mut.result.now c.requires.within c.index_mut.ensures.value)

pub returns-in-Ok-clause-shows : goal.returns-in-Ok-clause-shows
returns-in-Ok-clause-shows g c =
    let x = c.args.self.now in
    heard_left g.F.Files g.R.Roads g.I.LinkIn g.O.LinkOut _ c.args.conn c.args.place x _ c.keep.new.self c.index_mut.result.now c.hear.new.self c.args.roads.now c.hear.new.roads x.office c.hear.new.office c.keep.result refl refl c.hear.ensures.office refl refl refl refl refl refl
    c.clients_stay.ensures c.pipelines_leave_others.ensures c.nodes_stay.ensures c.nodes_ends_stay.ensures c.hearing_keeps_others.ensures c.writers_keep_nodes.ensures.heard
    (element_some x.clients.items c.args.place c.index_mut.result.now c.requires.within c.index_mut.ensures.value) c.in-Ok.ensures.shows c.keep.ensures.kept

pub returns-in-Err-clause-shows : goal.returns-in-Err-clause-shows
returns-in-Err-clause-shows g c =
    let x = c.args.self.now in
    let now = record x { clients = with_item x.clients c.args.place c.hear.new.self; office = c.hear.new.office } in
    subst (λ (y : PlayFault). HeardShows g.F.Files g.R.Roads g.I.LinkIn g.O.LinkOut c.args.conn c.args.place x now c.args.roads.now c.hear.new.roads (Err y)) (sym c.of_client.ensures)
    (heard_failed g.F.Files g.R.Roads g.I.LinkIn g.O.LinkOut _ c.args.conn c.args.place x now c.index_mut.result.now c.hear.new.self c.args.roads.now c.hear.new.roads x.office c.in-Err.fault refl
    (element_some x.clients.items c.args.place c.index_mut.result.now c.requires.within c.index_mut.ensures.value) c.in-Err.ensures.shows)
