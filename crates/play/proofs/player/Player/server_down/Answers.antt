-- A lower end that a reader dialled took what stood next, and the event was kept.
use Rattle.std.proofs.Common.{Err, sym, subst}
use Rattle.node_stops.proofs.PlayNodes.SizeLaws.{sizes_after}
use Rattle.play.specs.declared.faults.PlayFault.{PlayFault}
use Rattle.play.specs.Reading.{TakeShows}
use Rattle.play.proofs.ReadSteps.{reads_stand, take_left, take_failed}
use Rattle.play.proofs.player.Player.server_down.Goals as goal

pub down-requires-after_bounds : goal.down-requires-after_bounds
down-requires-after_bounds g c κs within = reads_stand g.F.Files g.R.Roads g.I.LinkIn g.O.LinkOut c.args.roads.now c.args.self.now c.requires

pub returns-in-Ok-clause-shows : goal.returns-in-Ok-clause-shows
returns-in-Ok-clause-shows g c =
    take_left g.F.Files g.R.Roads g.I.LinkIn g.O.LinkOut c.worlds_are_lawful.ensures c.clients_stay.ensures c.reads_leave_others.ensures c.args.conn c.args.self.now c.keep.new.self c.down.new.nodes c.down.new.self c.args.roads.now c.down.new.roads c.keep.result c.down.ensures.sizes c.in-Ok.ensures.shows c.keep.ensures.kept

pub returns-in-Err-clause-shows : goal.returns-in-Err-clause-shows
returns-in-Err-clause-shows g c =
    let now = record c.args.self.now { nodes = c.down.new.nodes; reads = c.down.new.self } in
    subst (λ (x : PlayFault). TakeShows g.F.Files g.R.Roads g.I.LinkIn g.O.LinkOut c.args.conn c.args.self.now now c.args.roads.now c.down.new.roads (Err x)) (sym c.of_reads.ensures)
    (take_failed g.F.Files g.R.Roads g.I.LinkIn g.O.LinkOut c.worlds_are_lawful.ensures c.clients_stay.ensures c.reads_leave_others.ensures c.args.conn c.args.self.now now c.args.roads.now c.down.new.roads c.in-Err.fault c.in-Err.ensures.shows)

pub returns-in-Ok-clause-sizes : goal.returns-in-Ok-clause-sizes
returns-in-Ok-clause-sizes g c = sizes_after c.args.self.now.nodes c.down.new.nodes c.keep.new.self.nodes c.down.ensures.sizes c.keep.ensures.sizes
