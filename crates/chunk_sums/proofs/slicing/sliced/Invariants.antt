use Rattle.std.proofs.Common.{◌≡◌, length}
use Rattle.chunk_sums.specs.Crc.{register}
use Rattle.chunk_sums.proofs.slicing.sliced.Given as goal

abbrev pub invariant-loop-front : goal.invariant-loop-front
invariant-loop-front g l = register g.P.Polynomial.reflected l.state l.rest ≡ register g.P.Polynomial.reflected l.start l.body

abbrev pub decreases-loop-front : goal.decreases-loop-front
decreases-loop-front g l = length l.rest
