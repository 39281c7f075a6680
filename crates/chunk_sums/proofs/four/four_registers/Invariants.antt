use Rattle.std.proofs.Common.{◌≡◌, ◌*◌, take}
use Rattle.chunk_sums.specs.Crc.{register}
use Rattle.chunk_sums.proofs.four.four_registers.Given as goal

abbrev pub invariant-loop-step : goal.invariant-loop-step
invariant-loop-step g l = record {
  first : l.a ≡ register g.P.Polynomial.reflected 0 (take (l.step * 16) l.lanes.a.mixed);
  second : l.b ≡ register g.P.Polynomial.reflected 0 (take (l.step * 16) l.lanes.b.mixed);
  third : l.c ≡ register g.P.Polynomial.reflected 0 (take (l.step * 16) l.lanes.c.mixed);
  fourth : l.d ≡ register g.P.Polynomial.reflected 0 (take (l.step * 16) l.lanes.d.mixed);
}
