-- A member took what stood next from above, and the event was kept.
use Rattle.std.proofs.Common.{false, sym, subst, Err}
use Rattle.play.specs.declared.faults.PlayFault.{PlayFault}
use Rattle.play.specs.Events.{DownShows}
use Rattle.play.proofs.NodeSteps.{down_left, down_failed}
use Rattle.node_stops.proofs.PlayNodes.SizeLaws.{sizes_after}
use Rattle.play.proofs.player.Player.member_down.Goals as goal

pub returns-in-Ok-clause-shows : goal.returns-in-Ok-clause-shows
returns-in-Ok-clause-shows g c =
    down_left g.F.Files g.R.Roads g.I.LinkIn g.O.LinkOut c.args.conn c.args.self.now c.member_down.new.self c.keep_down.new.self c.args.roads.now c.member_down.new.roads c.in-Ok.grew c.keep_down.result c.in-Ok.ensures.sizes.blocks c.clients_stay.ensures c.pipelines_leave_others.ensures c.nodes_keep_writers.ensures.down c.running_stays.ensures c.in-Ok.ensures.shows c.keep_down.ensures.kept

pub returns-in-Err-clause-shows : goal.returns-in-Err-clause-shows
returns-in-Err-clause-shows g c =
    let new = record c.args.self.now { nodes = c.member_down.new.self } in
    subst (λ (x : PlayFault). DownShows g.F.Files g.R.Roads g.I.LinkIn g.O.LinkOut c.args.conn false c.args.self.now new c.args.roads.now c.member_down.new.roads (Err x)) (sym c.of_nodes.ensures)
    (down_failed g.F.Files g.R.Roads g.I.LinkIn g.O.LinkOut c.args.conn c.args.self.now new c.args.roads.now c.member_down.new.roads c.in-Err.fault c.in-Err.ensures.shows)

pub returns-in-Ok-clause-sizes : goal.returns-in-Ok-clause-sizes
returns-in-Ok-clause-sizes g c = sizes_after c.args.self.now.nodes c.member_down.new.self c.keep_down.new.self.nodes c.member_down.ensures.sizes c.keep_down.ensures.sizes
