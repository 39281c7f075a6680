use Rattle.std.proofs.Common.{◌≡◌, take}
use Rattle.chunk_sums.specs.Crc.{register}
use Rattle.chunk_sums.proofs.slicing.bytewise.Given as goal

abbrev pub invariant-loop-byte : goal.invariant-loop-byte
invariant-loop-byte g l = l.state ≡ register g.P.Polynomial.reflected l.start (take l.byte-index l.body)
