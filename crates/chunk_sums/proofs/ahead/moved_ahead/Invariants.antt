use Rattle.std.proofs.Common.{◌≡◌, ◌≤◌, length, take}
use Rattle.chunk_sums.specs.Ahead.{held, far_places}
use Rattle.chunk_sums.specs.Crc.{register, crc32c_polynomial}
use Rattle.chunk_sums.proofs.ahead.moved_ahead.Given as goal

abbrev pub invariant-loop-rest : goal.invariant-loop-rest
invariant-loop-rest l = record {
  so_far : register crc32c_polynomial l.start l.body ≡ held crc32c_polynomial far_places (take 418 l.buffer) l.rest;
  behind : 418 ≤ length l.rest;
  room : length l.buffer ≡ 8482;
}

abbrev pub decreases-loop-rest : goal.decreases-loop-rest
decreases-loop-rest l = length l.rest
