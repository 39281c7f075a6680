-- What stands next on the roads themselves, but for the end of a cut.
use Rattle.std.proofs.Common.{ap}
use Rattle.fault_ports.specs.declared.piece_counts.PieceCount.{PieceCount}
use Rattle.fault_ports.proofs.StandingLaws.{next_seen}
use Rattle.fault_ports.proofs.cutting.CuttingRoads.standing.Goals as goal

pub returns-clause-next : goal.returns-clause-next
returns-clause-next g c =
    next_seen (g.R.Roads.plain c.args.self.now.inner) c.args.self.now.plain c.standing-standing.result c.seen_next.result c.get.result.left c.args.self.now.counts.duplexes.items c.args.conn.0 c.args.down
    c.if-not-self.false c.args.self.now.plain_seen (ap (λ (k : PieceCount). k.left) c.get.ensures) c.seen_next.ensures c.standing-standing.ensures.next
