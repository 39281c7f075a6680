use Rattle.std.proofs.Common.{◌≡◌, ℕ, ◌*◌, ◌<◌, length, get_or, take, drop}
use Rattle.chunk_sums.specs.Crc.{number}
use Rattle.chunk_sums.proofs.lanes.words_of.Given as goal

abbrev pub invariant-loop-step : goal.invariant-loop-step
invariant-loop-step l = record {
  len : length l.words ≡ 28;
  are : (k : ℕ) → k < 4 * l.step → get_or l.words k 0 ≡ number (take 4 (drop (4 * k) l.bytes));
}
