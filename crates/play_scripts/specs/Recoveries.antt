-- The lines that recover, and what they ask.
use Rattle.std.specs.Prelude.{◌≡◌, ℕ, if◌then◌else◌, Bool, true, false, List, [], ◌∷◌, map}
use Rattle.script_lang.specs.declared.instructions.Instruction.{Instruction}
use Rattle.script_lang.specs.declared.instructions.Instruction.TheVariants as says
use Rattle.script_lang.specs.declared.instructions.ScriptLine.{ScriptLine}
use Rattle.play_laws.specs.PlayModel.Recovery.{Recovery}
use Rattle.play_laws.specs.PlayModel.Lines.{Plays}
use Rattle.play_laws.specs.PlayModel.States.{PlayState}

-- whether a line recovers
abbrev pub is_recovery : Instruction → Bool
is_recovery (says.Recover block node members) = true
is_recovery other = false

-- the numbers of the lines that recover, in their order
abbrev pub recovery_numbers : List ScriptLine → List ℕ
recovery_numbers [] = []
recovery_numbers (l ∷ lines) = if is_recovery l.instruction then l.number ∷ recovery_numbers lines else recovery_numbers lines

-- the primaries that recover this
abbrev pub primaries_of : List Recovery → List ℕ
primaries_of recoveries = map (λ (r : Recovery). r.primary) recoveries

-- The primaries of a play of these lines are those of the lines that recover, in their order.
abbrev pub PlaysRecoverByNumber : Type 0
PlaysRecoverByNumber = (lines : List ScriptLine) (end : PlayState) → Plays lines end
    → primaries_of end.recoveries ≡ recovery_numbers lines
