-- The header of a metadata file.
use Rattle.std.specs.Prelude.{ℕ, List, ◌∷◌, ◌++◌}
use Rattle.std.specs.Int.{w16, w32, to_be_bytes}
use Rattle.hd_base.specs.SumRules.{Rule, kind_number}

-- version 1, the kind of the sums, and how many bytes a chunk has
abbrev pub header_of : Rule → List ℕ
header_of r = to_be_bytes w16 1 ++ (kind_number r.kind ∷ to_be_bytes w32 r.chunk)
