-- A primary took its own step, and its events were kept.
use Rattle.std.proofs.Common.{Some, Err, refl, sym, subst, ◌∙◌}
use Rattle.node_stops.proofs.PlayNodes.PlaceLaws.{element_some}
use Rattle.node_stops.proofs.PlayNodes.SizeLaws.{sizes_after}
use Rattle.play.specs.declared.faults.PlayFault.{PlayFault}
use Rattle.play.specs.Recovering.{LeadShows}
use Rattle.play.proofs.RecoverySteps.{recoveries_stand, same_recovery, lead_left, lead_failed}
use Rattle.play.proofs.player.Player.lead.Goals as goal

pub own-requires-clause-stands : goal.own-requires-clause-stands
own-requires-clause-stands g c κs within = recoveries_stand g.F.Files g.R.Roads g.I.LinkIn g.O.LinkOut c.args.roads.now c.args.self.now c.requires.stands

pub returns-in-Ok-clause-shows : goal.returns-in-Ok-clause-shows
returns-in-Ok-clause-shows g c =
    let x = c.args.self.now in
    let at = element_some x.recoveries.clients.items c.args.place c.index.result.now c.requires.within c.index.ensures in
    let at_too = element_some x.recoveries.clients.items c.args.place c.index-2.result.now c.requires.within c.index-2.ensures in
    lead_left g.F.Files g.R.Roads g.I.LinkIn g.O.LinkOut c.worlds_are_lawful.ensures c.clients_stay.ensures c.recoveries_leave_others.ensures _ c.args.place x c.keep_deed.new.self c.own.new.nodes c.own.new.self c.own.new.office c.index.result.now c.duplicate-recovery.result c.deed-deed.result c.as_slice-running.result.now c.args.roads.now c.own.new.roads c.keep_deed.result refl refl at
    (c.duplicate-recovery.ensures ∙ same_recovery c.index-2.result.now c.index.result.now (sym at_too ∙ at)) c.as_slice-running.ensures.value c.own.ensures.sizes c.in-Ok.ensures.shows c.deed-deed.ensures c.keep_deed.ensures.kept

pub returns-in-Err-clause-shows : goal.returns-in-Err-clause-shows
returns-in-Err-clause-shows g c =
    let now = record c.args.self.now { nodes = c.own.new.nodes; recoveries = c.own.new.self; office = c.own.new.office } in
    subst (λ (x : PlayFault). LeadShows g.F.Files g.R.Roads g.I.LinkIn g.O.LinkOut c.args.place c.args.self.now now c.args.roads.now c.own.new.roads (Err x)) (sym c.of_recoveries.ensures)
    (lead_failed g.F.Files g.R.Roads g.I.LinkIn g.O.LinkOut c.worlds_are_lawful.ensures c.clients_stay.ensures c.recoveries_leave_others.ensures (record { office = λ b. Some b.office }) c.args.place c.args.self.now now c.own.new.office c.as_slice-running.result.now c.args.roads.now c.own.new.roads c.in-Err.fault refl c.as_slice-running.ensures.value c.in-Err.ensures.shows)

pub returns-in-Ok-clause-sizes : goal.returns-in-Ok-clause-sizes
returns-in-Ok-clause-sizes g c = sizes_after c.args.self.now.nodes c.own.new.nodes c.keep_deed.new.self.nodes c.own.ensures.sizes c.keep_deed.ensures.sizes
