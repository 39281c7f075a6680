-- The rule of a block's sums, and the numbers that messages and metadata files have for it.
use Rattle.std.specs.Prelude.{ℕ, ◌≤◌}
use Rattle.hd_base.specs.declared.sum_rule.SumKind.{SumKind}
use Rattle.hd_base.specs.declared.sum_rule.SumKind.TheVariants as kind

-- the number of a kind of sums
abbrev pub kind_number : SumKind → ℕ
kind_number kind.Null = 0
kind_number kind.Crc32 = 1
kind_number kind.Crc32c = 2

-- A chunk may have so many bytes.
pub record IsChunkSize (chunk : ℕ) : Type 0 where
  pub least : 16 ≤ chunk
  pub greatest : chunk ≤ 65536

-- the kind of a block's sums, and how many bytes a chunk has
pub record Rule : Type 0 where
  pub kind : SumKind
  pub chunk : ℕ

-- the rule of a block for which no other was given
abbrev pub default_rule : Rule
default_rule = record { kind = kind.Crc32c; chunk = 512 }
