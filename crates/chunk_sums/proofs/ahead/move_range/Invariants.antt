use Rattle.std.proofs.Common.{◌≡◌, take, drop}
use Rattle.chunk_sums.specs.Crc.{crc32c_polynomial}
use Rattle.chunk_sums.specs.Ahead.{held, far_places}
use Rattle.chunk_sums.proofs.ahead.move_range.Given as goal

abbrev pub invariant-loop-i : goal.invariant-loop-i
invariant-loop-i l =
    held crc32c_polynomial far_places (take 418 (drop l.from l.initial.buffer)) (drop l.from l.body)
    ≡ held crc32c_polynomial far_places (take 418 (drop l.i l.buffer)) (drop l.i l.body)
