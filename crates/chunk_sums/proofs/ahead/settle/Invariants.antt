use Rattle.std.proofs.Common.{take}
use Rattle.chunk_sums.specs.Ahead.{far_places}
use Rattle.chunk_sums.proofs.AheadLemmas.{MixedSoFar}
use Rattle.chunk_sums.proofs.ahead.settle.Given as goal

abbrev pub invariant-loop-i : goal.invariant-loop-i
invariant-loop-i l = MixedSoFar far_places (take 418 l.window) l.last l.mixed l.i
