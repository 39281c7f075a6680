-- Scripts, one line further.
use Rattle.std.proofs.Common.{◌≡◌, ℕ, ◌+◌, List, ◌∷◌, Result, Ok, Err}
use Rattle.hd_base.specs.Results.{with_cause}
use Rattle.hd_base.proofs.ResultLaws.{bind-Ok, bind-Err}
use Rattle.script_lang.specs.declared.faults.BadKind.{BadKind}
use Rattle.script_lang.specs.declared.faults.ScriptError.{ScriptError}
use Rattle.script_lang.specs.declared.faults.ScriptError.TheVariants as error
use Rattle.script_lang.specs.declared.instructions.ScriptLine.{ScriptLine}
use Rattle.script_lang.specs.Fits.{Before}
use Rattle.script_lang.specs.Scripts.{line_told, script_from, Reads}

-- what a line leads to, at its number
abbrev pub told_at : ℕ → ℕ → Before → List ScriptLine → List ℕ → Result (Before × List ScriptLine) (ℕ × BadKind)
told_at shelves number before said line = with_cause (λ kind. (number, kind)) (line_told shelves number before said line)

-- a line that is good
pub script_next : (shelves number : ℕ) (before after : Before) (said more : List ScriptLine) (line : List ℕ) (lines : List (List ℕ)) → told_at shelves number before said line ≡ Ok (after, more) → script_from shelves number before said (line ∷ lines) ≡ script_from shelves (number + 1) after more lines
unfolding script_from
script_next shelves number before after said more line lines e = bind-Ok (told_at shelves number before said line) _ (after, more) e

-- a line that is bad
pub script_stops : (shelves number : ℕ) (before : Before) (said : List ScriptLine) (line : List ℕ) (lines : List (List ℕ)) (e : ScriptError) → Reads {A = Before × List ScriptLine} (Err e) (told_at shelves number before said line) → Reads {A = List ScriptLine} (Err e) (script_from shelves number before said (line ∷ lines))
unfolding script_from
script_stops shelves number before said line lines (error.Bad at kind) e = bind-Err (told_at shelves number before said line) _ (at, kind) e
script_stops shelves number before said line lines error.Memory e = tt
