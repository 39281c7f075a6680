use Rattle.std.proofs.Common.{◌+◌, ◌*◌}
use Rattle.chunk_sums.specs.Four.{OfEach, IsSpreadTo}
use Rattle.chunk_sums.proofs.four.four_sums.Given as goal

abbrev pub invariant-loop-step : goal.invariant-loop-step
invariant-loop-step g l = OfEach (IsSpreadTo g.P.Polynomial.wide_places (208 + l.step * 16)) l.pieces l.lanes
