-- Lists of the bytes that are certain after a loss of power.
use Rattle.std.specs.Prelude.{ℕ, ◌+◌, zero, suc, ◌&&◌, nat_le, nat_lt, cond, List, [], ◌∷◌, Option, Some, None}

-- the byte that is certain at a place
abbrev pub certain_at : List (Option ℕ) → ℕ → Option ℕ
certain_at [] i = None
certain_at (byte ∷ rest) zero = byte
certain_at (byte ∷ rest) (suc i) = certain_at rest i

-- a byte that is certain unless its place is in this range
abbrev pub certain_outside : ℕ → ℕ → ℕ → Option ℕ → Option ℕ
certain_outside place end i byte = cond (nat_le place i && nat_lt i end) None byte

-- a list whose first element stands at place n, without the bytes in a range of places
abbrev pub without_range : ℕ → ℕ → ℕ → List (Option ℕ) → List (Option ℕ)
without_range place end n [] = []
without_range place end n (byte ∷ rest) = certain_outside place end n byte ∷ without_range place end (n + 1) rest

-- all bytes of a list
abbrev pub all_certain : List ℕ → List (Option ℕ)
all_certain [] = []
all_certain (byte ∷ rest) = Some byte ∷ all_certain rest
