-- A writer took its own step, and what it left was kept.
use Rattle.std.specs.Vec.{with_item}
use Rattle.std.proofs.Common.{refl, sym, subst, ◌∙◌, Err}
use Rattle.node_stops.proofs.PlayNodes.PlaceLaws.{element_some}
use Rattle.play.specs.declared.faults.PlayFault.{PlayFault}
use Rattle.play.specs.Owning.{OwnShows}
use Rattle.play.proofs.HearSteps.{client_known}
use Rattle.play.proofs.OwnSteps.{own_left, own_failed, same_block}
use Rattle.play.proofs.player.Player.own.Goals as goal

pub own-requires-after_bounds : goal.own-requires-after_bounds
own-requires-after_bounds g c κs within =
    client_known g.R.Roads g.I.LinkIn g.O.LinkOut c.args.roads.now c.args.self.now c.args.place c.index_mut.result.now c.requires.stands
    (element_some c.args.self.now.clients.items c.args.place c.index_mut.result.now c.requires.within c.index_mut.ensures.value)

pub returns-in-Ok-clause-shows : goal.returns-in-Ok-clause-shows
returns-in-Ok-clause-shows g c =
    let x = c.args.self.now in
    let at = element_some x.clients.items c.args.place c.index_mut.result.now c.requires.within c.index_mut.ensures.value in
    own_left g.F.Files g.R.Roads g.I.LinkIn g.O.LinkOut _ c.args.place x _ c.owned.new.self c.index_mut.result.now c.own.new.self c.args.roads.now c.own.new.roads x.office c.own.new.office _ c.index.result.now.block c.in-Ok.left c.owned.result refl refl refl refl refl refl refl refl (c.len.ensures ∙ x.nodes.connections.ok.0)
    c.clients_stay.ensures c.pipelines_leave_others.ensures c.nodes_stay.ensures c.nodes_ends_stay.ensures c.own_steps_keep_others.ensures c.writers_keep_nodes.ensures.own at
    (same_block c.index.result.now c.index_mut.result.now (sym (element_some x.clients.items c.args.place c.index.result.now c.requires.within c.index.ensures) ∙ at)) c.in-Ok.ensures.shows c.owned.ensures.owned

pub returns-in-Err-clause-shows : goal.returns-in-Err-clause-shows
returns-in-Err-clause-shows g c =
    let x = c.args.self.now in
    let now = record x { clients = with_item x.clients c.args.place c.own.new.self; office = c.own.new.office } in
    subst (λ (y : PlayFault). OwnShows g.F.Files g.R.Roads g.I.LinkIn g.O.LinkOut c.args.place x now c.args.roads.now c.own.new.roads (Err y)) (sym c.of_client.ensures)
    (own_failed g.F.Files g.R.Roads g.I.LinkIn g.O.LinkOut _ c.args.place x now c.index_mut.result.now c.own.new.self c.args.roads.now c.own.new.roads x.office c.own.new.office _ c.in-Err.fault refl (c.len.ensures ∙ x.nodes.connections.ok.0)
    (element_some x.clients.items c.args.place c.index_mut.result.now c.requires.within c.index_mut.ensures.value) c.in-Err.ensures.shows)
