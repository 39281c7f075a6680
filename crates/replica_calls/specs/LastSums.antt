-- The sum of the bytes of the last chunk, and how it serves bytes that grow.
use Rattle.std.specs.Prelude.{ℕ, ◌≡◌, true, List, ◌++◌, length}
use Rattle.hd_base.specs.SumRules.{Rule}
use Rattle.hd_base.specs.Bytes.{IsBytes}
use Rattle.chunk_sums.specs.Crc.{sum_of}
use Rattle.chunk_sums.specs.Chunks.{sums}
use Rattle.replica_model.specs.Sums.{tail}
use Rattle.replica_model.specs.Plans.{has_sums}
use Rattle.replica_calls.specs.declared.growth.GrownSums.{GrownSums}

-- Where chunks have sums, this is the sum of the bytes of the last chunk, where it is short; of no bytes, where it is whole.
abbrev pub IsLastSum : Rule → ℕ → List ℕ → Type 0
IsLastSum r sum bytes = has_sums r.kind ≡ true → sum ≡ sum_of r.kind (tail r bytes)

-- So many bytes, and the sum of those in the last chunk.
pub record IsGrowing (r : Rule) (written sum : ℕ) (bytes : List ℕ) : Type 0 where
  pub are_bytes : IsBytes bytes
  pub all : length bytes ≡ written
  pub last : IsLastSum r sum bytes

-- The sums of the bytes with more behind them: from the chunk on that was the last, and of the bytes that are in the last now.
pub record AreGrownSums (r : Rule) (bytes more : List ℕ) (grown : GrownSums) : Type 0 where
  pub from_last : grown.sums.items ≡ sums r (tail r bytes ++ more)
  pub last_now : IsLastSum r grown.last (bytes ++ more)
