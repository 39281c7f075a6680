use Rattle.std.proofs.Common.{◌≡◌, ◌++◌, ◌+◌, ◌*◌, take}
use Rattle.chunk_sums.specs.Chunks.{flat_sums}
use Rattle.chunk_sums.proofs.chunks.put_all.Given as goal

abbrev pub invariant-loop-i : goal.invariant-loop-i
invariant-loop-i l = take (l.at + 4 * l.i) l.into ≡ take l.at l.initial.into ++ flat_sums (take l.i l.sums)
