-- One connection more is cut.
use Rattle.std.proofs.Common.{arith}
use Rattle.node_stops.proofs.CutLemmas.{among_at, keeps_keep, known_kept, so_far_none, so_far_more, so_far_all}
use Rattle.node_stops.proofs.cutting.cut_all.Goals as goal

pub loop-conn-init : goal.loop-conn-init
loop-conn-init g c = so_far_none g.R.Roads c.args.roads.now

pub cut-requires : goal.cut-requires
cut-requires g c =
    known_kept (g.R.Roads.plain c.args.roads.now) (g.R.Roads.plain c.loop-conn.roads) _ c.loop-conn.invariant.keeps (c.requires _ (among_at c.args.conns.now c.loop-conn.conn-index _ c.loop-conn-test.true))

pub returns-in_err-cut-clause-connections : goal.returns-in_err-cut-clause-connections
returns-in_err-cut-clause-connections g c =
    keeps_keep (g.R.Roads.plain c.args.roads.now) (g.R.Roads.plain c.loop-conn.roads) (g.R.Roads.plain c.cut.new.self) c.loop-conn.invariant.keeps c.cut.ensures.connections

pub returns-in_err-cut-clause-faults : goal.returns-in_err-cut-clause-faults
returns-in_err-cut-clause-faults g c = omega (arith, c.loop-conn.invariant.later, c.cut.ensures.faults)

pub loop-conn-preserved : goal.loop-conn-preserved
loop-conn-preserved g c =
    so_far_more g.R.Roads c.cuts_show.ensures c.args.conns.now c.loop-conn.conn-index _ c.args.roads.now c.loop-conn.roads c.cut.new.self c.loop-conn-test.true (record { plain = c.in_ok-cut.ensures.cut; carried = c.cut.ensures.carried }) c.cut.ensures.connections c.cut.ensures.faults c.loop-conn.invariant

pub returns-clause-shows : goal.returns-clause-shows
returns-clause-shows g c = so_far_all g.R.Roads c.args.conns.now c.loop-conn.conn-index c.args.roads.now c.loop-conn.roads c.loop-conn-test.false c.loop-conn.invariant

pub returns-clause-connections : goal.returns-clause-connections
returns-clause-connections g c = c.loop-conn.invariant.keeps

pub returns-clause-faults : goal.returns-clause-faults
returns-clause-faults g c = c.loop-conn.invariant.later
