-- The ends of the connections so far were brought back.
use Rattle.node_stops.proofs.EndLemmas.{Ending}
use Rattle.node_stops.proofs.ending.end_all.Given as goal

abbrev pub invariant-loop-index : goal.invariant-loop-index
invariant-loop-index g l = Ending g.R.Roads g.I.LinkIn g.O.LinkOut l.node l.fn.nodes l.fn.roads l.index l.nodes l.roads
