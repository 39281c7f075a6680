-- Lists of bytes.
use Rattle.std.specs.Prelude.{◌≡◌, ℕ, ◌<◌, List, ◌++◌, slice_index}

-- Each number of the list is a byte.
abbrev pub IsBytes : List ℕ → Type 0
IsBytes bytes = (i : ℕ) → slice_index bytes i < 256

-- The bytes are this text and then this rest, and the rest is bytes too.
pub record Takes (bytes text rest : List ℕ) : Type 0 where
  pub parts : bytes ≡ text ++ rest
  pub left : IsBytes rest
