-- An end took its first message, and the event was kept.
use Rattle.std.proofs.Common.{sym, subst, Err}
use Rattle.play.specs.declared.faults.PlayFault.{PlayFault}
use Rattle.play.specs.Events.{BeginShows}
use Rattle.play.proofs.NodeSteps.{begin_left, begin_failed}
use Rattle.node_stops.proofs.PlayNodes.SizeLaws.{sizes_after}
use Rattle.play.proofs.player.Player.begin.Goals as goal

pub returns-in-Ok-clause-shows : goal.returns-in-Ok-clause-shows
returns-in-Ok-clause-shows g c =
    begin_left g.F.Files g.R.Roads g.I.LinkIn g.O.LinkOut c.args.conn c.args.self.now c.begin.new.self c.begun.new.self c.args.roads.now c.begin.new.roads c.in-Ok.unanswered c.begun.result c.in-Ok.ensures.sizes.blocks c.clients_stay.ensures c.pipelines_leave_others.ensures c.nodes_keep_writers.ensures.down c.running_stays.ensures c.in-Ok.ensures.shows c.begun.ensures.begins

pub returns-in-Err-clause-shows : goal.returns-in-Err-clause-shows
returns-in-Err-clause-shows g c =
    let new = record c.args.self.now { nodes = c.begin.new.self } in
    subst (λ (x : PlayFault). BeginShows g.F.Files g.R.Roads g.I.LinkIn g.O.LinkOut c.args.conn c.args.self.now new c.args.roads.now c.begin.new.roads (Err x)) (sym c.of_nodes.ensures)
    (begin_failed g.F.Files g.R.Roads g.I.LinkIn g.O.LinkOut c.args.conn c.args.self.now new c.args.roads.now c.begin.new.roads c.in-Err.fault c.in-Err.ensures.shows)

pub returns-in-Ok-clause-sizes : goal.returns-in-Ok-clause-sizes
returns-in-Ok-clause-sizes g c = sizes_after c.args.self.now.nodes c.begin.new.self c.begun.new.self.nodes c.begin.ensures.sizes c.begun.ensures.sizes
