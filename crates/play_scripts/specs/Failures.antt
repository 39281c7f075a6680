-- The lines that make something fail.
use Rattle.std.specs.Prelude.{◌≡◌, Bool, true, false, List, [], ◌∷◌}
use Rattle.script_lang.specs.declared.instructions.Instruction.{Instruction}
use Rattle.script_lang.specs.declared.instructions.Instruction.TheVariants as says
use Rattle.script_lang.specs.declared.instructions.ScriptLine.{ScriptLine}

-- a cut, a fault, a stop, a start or a recovery
abbrev pub is_failure : Instruction → Bool
is_failure (says.Cut block connection down up) = true
is_failure (says.Fault node nth) = true
is_failure (says.Stop node) = true
is_failure (says.Start node) = true
is_failure (says.Recover block node members) = true
is_failure other = false

-- none of these lines is among them
abbrev pub HaveNoFailures : List ScriptLine → Type 0
HaveNoFailures [] = Unit {0}
HaveNoFailures (l ∷ lines) = (is_failure l.instruction ≡ false) × HaveNoFailures lines
