-- The lines that read, and what they ask.
use Rattle.std.specs.Prelude.{◌≡◌, ℕ, if◌then◌else◌, Bool, true, false, List, [], ◌∷◌, map}
use Rattle.script_lang.specs.declared.instructions.Instruction.{Instruction}
use Rattle.script_lang.specs.declared.instructions.Instruction.TheVariants as says
use Rattle.script_lang.specs.declared.instructions.ScriptLine.{ScriptLine}
use Rattle.play_laws.specs.PlayModel.ReadAsk.{ReadAsk}
use Rattle.play_laws.specs.PlayModel.Lines.{Plays}
use Rattle.play_laws.specs.PlayModel.States.{PlayState}

-- whether a line reads
abbrev pub is_read : Instruction → Bool
is_read (says.Read block node offset count) = true
is_read other = false

-- the numbers of the lines that read, in their order
abbrev pub read_numbers : List ScriptLine → List ℕ
read_numbers [] = []
read_numbers (l ∷ lines) = if is_read l.instruction then l.number ∷ read_numbers lines else read_numbers lines

-- the readers that ask this
abbrev pub readers_of : List ReadAsk → List ℕ
readers_of asks = map (λ (a : ReadAsk). a.reader) asks

-- The readers of a play of these lines are those of the lines that read, in their order.
abbrev pub PlaysAskByNumber : Type 0
PlaysAskByNumber = (lines : List ScriptLine) (end : PlayState) → Plays lines end
    → readers_of end.asks ≡ read_numbers lines
