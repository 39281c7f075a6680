use Rattle.std.proofs.Common.{◌≡◌, ◌*◌, take, drop}
use Rattle.chunk_sums.specs.Crc.{crc32c_polynomial}
use Rattle.chunk_sums.specs.Ahead.{held, far_places}
use Rattle.chunk_sums.proofs.ahead.spread.Given as goal

abbrev pub invariant-loop-block : goal.invariant-loop-block
invariant-loop-block l =
    held crc32c_polynomial far_places (take 418 l.initial.buffer) l.body
    ≡ held crc32c_polynomial far_places (take 418 (drop (l.block * 96) l.buffer)) (drop (l.block * 96) l.body)
