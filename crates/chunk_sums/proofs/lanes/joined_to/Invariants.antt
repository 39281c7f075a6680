use Rattle.chunk_sums.proofs.LaneLemmas.{JoinedSoFar}
use Rattle.chunk_sums.proofs.lanes.joined_to.Given as goal

abbrev pub invariant-loop-place : goal.invariant-loop-place
invariant-loop-place l = JoinedSoFar l.places l.lane l.fn.bytes l.joined l.at l.place-index
