-- The first two lines of a script.
use Rattle.std.specs.Prelude.{List, ◌∷◌, Option, Some, None}
use Rattle.script_lang.specs.declared.instructions.Instruction.{Instruction}
use Rattle.script_lang.specs.declared.instructions.Instruction.TheVariants as says
use Rattle.script_lang.specs.declared.instructions.ScriptLine.{ScriptLine}
use Rattle.play_scripts.specs.declared.heads.Head.{Head}

-- `nodes` and `seed`
abbrev pub head_said : Instruction → Instruction → Option Head
head_said (says.Nodes count) (says.Seed seed) = Some (record { nodes = count; seed = seed })
head_said first second = None

-- the head, where the first two lines are these
abbrev pub head_of : List ScriptLine → Option Head
head_of (first ∷ (second ∷ lines)) = head_said first.instruction second.instruction
head_of other = None
