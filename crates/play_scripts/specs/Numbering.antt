-- The numbers of lines.
use Rattle.std.specs.Prelude.{◌≡◌, ℕ, ◌+◌, ◌≤◌, List, [], ◌∷◌, slice_get, Some}
use Rattle.script_lang.specs.declared.instructions.ScriptLine.{ScriptLine}

-- The numbers of these lines ascend, from this one on.
abbrev pub LinesAscend : ℕ → List ScriptLine → Type 0
LinesAscend least [] = Unit {0}
LinesAscend least (l ∷ lines) = (least ≤ l.number) × LinesAscend (l.number + 1) lines

-- No two of these lines have one number.
abbrev pub NumbersDiffer : List ScriptLine → Type 0
NumbersDiffer lines = (j k : ℕ) (a b : ScriptLine) → slice_get lines j ≡ Some a → slice_get lines k ≡ Some b →
    a.number ≡ b.number
    → j ≡ k

-- So it is of lines whose numbers ascend.
abbrev pub AscendingDiffer : Type 0
AscendingDiffer = (least : ℕ) (lines : List ScriptLine) → LinesAscend least lines → NumbersDiffer lines
