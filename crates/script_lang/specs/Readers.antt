-- What the reader keeps, and what the next line leads to.
use Rattle.std.specs.Prelude.{ℕ, List, Result}
use Rattle.hd_base.specs.Results.{with_cause}
use Rattle.script_lang.specs.declared.faults.BadKind.{BadKind}
use Rattle.script_lang.specs.declared.instructions.Instruction.{Instruction}
use Rattle.script_lang.specs.declared.instructions.ScriptLine.{ScriptLine}
use Rattle.script_lang.specs.declared.reading.Reader.{Reader}
use Rattle.script_lang.specs.Fits.{Before, before_of}
use Rattle.script_lang.specs.Scripts.{line_told, command_said, script_from}

-- what the lines before tell, and the lines that said something
abbrev pub kept_by : Reader → Before × List ScriptLine
kept_by r = (before_of r.progress, r.lines.items)

-- the same behind the next line, or the rule that this breaks, alone and with its number
abbrev pub next_told : Reader → List ℕ → Result (Before × List ScriptLine) BadKind
next_told r line = line_told r.shelves r.number (before_of r.progress) r.lines.items line

abbrev pub told_at : Reader → List ℕ → Result (Before × List ScriptLine) (ℕ × BadKind)
told_at r line = with_cause (λ kind. (r.number, kind)) (next_told r line)

-- what the words of a command line say
abbrev pub command_of : Reader → List ℕ → List (List ℕ) → Result Instruction BadKind
command_of r word words = command_said r.progress.head r.shelves r.progress.nodes word words

-- what more lines lead to
abbrev pub script_behind : Reader → List (List ℕ) → Result (List ScriptLine) (ℕ × BadKind)
script_behind r lines = script_from r.shelves r.number (before_of r.progress) r.lines.items lines
