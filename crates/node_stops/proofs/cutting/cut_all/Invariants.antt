-- The connections so far were cut.
use Rattle.std.proofs.Common.{take}
use Rattle.node_stops.proofs.CutLemmas.{CutSoFar}
use Rattle.node_stops.proofs.cutting.cut_all.Given as goal

abbrev pub invariant-loop-conn : goal.invariant-loop-conn
invariant-loop-conn g l = CutSoFar g.R.Roads (take l.conn-index l.conns) l.fn.roads l.roads
