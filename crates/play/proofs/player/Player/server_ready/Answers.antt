-- It sent a packet, and the event was kept.
use Rattle.std.proofs.Common.{Err, sym, subst}
use Rattle.node_stops.proofs.PlayNodes.SizeLaws.{sizes_after}
use Rattle.play.specs.declared.faults.PlayFault.{PlayFault}
use Rattle.play.specs.Reading.{SendShows}
use Rattle.play.proofs.ReadSteps.{reads_stand, send_left, send_failed}
use Rattle.play.proofs.player.Player.server_ready.Goals as goal

pub ready-requires-after_bounds : goal.ready-requires-after_bounds
ready-requires-after_bounds g c κs within = reads_stand g.F.Files g.R.Roads g.I.LinkIn g.O.LinkOut c.args.roads.now c.args.self.now c.requires

pub returns-in-Ok-clause-shows : goal.returns-in-Ok-clause-shows
returns-in-Ok-clause-shows g c =
    send_left g.F.Files g.R.Roads g.I.LinkIn g.O.LinkOut c.worlds_are_lawful.ensures c.clients_stay.ensures c.reads_leave_others.ensures c.args.conn c.args.self.now c.keep.new.self c.ready.new.nodes c.ready.new.self c.args.roads.now c.ready.new.roads c.keep.result c.ready.ensures.sizes c.in-Ok.ensures.shows c.keep.ensures.kept

pub returns-in-Err-clause-shows : goal.returns-in-Err-clause-shows
returns-in-Err-clause-shows g c =
    let now = record c.args.self.now { nodes = c.ready.new.nodes; reads = c.ready.new.self } in
    subst (λ (x : PlayFault). SendShows g.F.Files g.R.Roads g.I.LinkIn g.O.LinkOut c.args.conn c.args.self.now now c.args.roads.now c.ready.new.roads (Err x)) (sym c.of_reads.ensures)
    (send_failed g.F.Files g.R.Roads g.I.LinkIn g.O.LinkOut c.worlds_are_lawful.ensures c.clients_stay.ensures c.reads_leave_others.ensures c.args.conn c.args.self.now now c.args.roads.now c.ready.new.roads c.in-Err.fault c.in-Err.ensures.shows)

pub returns-in-Ok-clause-sizes : goal.returns-in-Ok-clause-sizes
returns-in-Ok-clause-sizes g c = sizes_after c.args.self.now.nodes c.ready.new.nodes c.keep.new.self.nodes c.ready.ensures.sizes c.keep.ensures.sizes
