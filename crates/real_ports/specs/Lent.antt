-- Which blocks are lent.
use Rattle.std.specs.Prelude.{◌==◌, ℕ, Bool, List}
use Rattle.std.specs.List.{list_any}
use Rattle.hd_base.specs.declared.numbers.BlockId.{BlockId}

-- a block stands in the list of those that are lent
abbrev pub lent_of : List BlockId → ℕ → Bool
lent_of lent block = list_any (λ b. b.0 == block) lent
