-- The connections so far were looked at.
use Rattle.node_stops.proofs.ConnectionLemmas.{FoundTo}
use Rattle.node_stops.proofs.connections.connections_of.Given as goal

abbrev pub invariant-loop-index : goal.invariant-loop-index
invariant-loop-index g l = FoundTo l.connections l.node l.found.items l.index
