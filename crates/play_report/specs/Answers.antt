-- The answers to the commands of blocks, in a report.
use Rattle.std.specs.Prelude.{ℕ, ◌==◌, ◌+◌, if◌then◌else◌, Bool, false, List, [], ◌∷◌, ◌++◌, map, flat_map, slice_get, option_map, Option, Some, None}
use Rattle.std.specs.Option.{option_and_then}
use Rattle.play_clients.specs.ClientEvents.Said.{Said}
use Rattle.play_clients.specs.declared.clients.Client.{Client}
use Rattle.play_clients.specs.Clients.{said_as}
use Rattle.script_lang.specs.Reports.{printed}
use Rattle.script_lang.specs.declared.instructions.Instruction.{Instruction}
use Rattle.script_lang.specs.declared.instructions.Instruction.TheVariants as says
use Rattle.script_lang.specs.declared.instructions.ScriptLine.{ScriptLine}
use Rattle.script_lang.specs.declared.report.Answer.{Answer}
use Rattle.script_lang.specs.declared.report.ReportLine.{ReportLine}
use Rattle.script_lang.specs.declared.report.ReportLine.TheVariants as line
use Rattle.world.specs.Parts as parts
use Rattle.writer_core.specs.declared.actions.ClientAnswer.{ClientAnswer}
use Rattle.play_report.specs.Results.{answer_of}

-- the text of lines
abbrev pub lines_text : List ReportLine → List ℕ
lines_text lines = flat_map printed lines

-- the answer to the command with this ordinal, if it was answered
abbrev pub told : List parts.Said → ℕ → Option ClientAnswer
told [] ordinal = None
told (s ∷ said) ordinal = if s.ordinal == ordinal then Some s.answer else told said ordinal

-- the line gives a command to the client of this block, a write and a fill among them
abbrev pub is_given : ℕ → Instruction → Bool
is_given b (says.Create block members) = block.0 == b
is_given b (says.Append block members) = block.0 == b
is_given b (says.Write block bytes) = block.0 == b
is_given b (says.Fill block count) = block.0 == b
is_given b (says.Hflush block) = block.0 == b
is_given b (says.Hsync block) = block.0 == b
is_given b (says.Close block) = block.0 == b
is_given b other = false

-- the line of an answer, if there is one to tell
abbrev pub answer_line : ℕ → ℕ → Option Answer → List ReportLine
answer_line b ordinal None = []
answer_line b ordinal (Some a) = line.Answer (record { 0 = b }) ordinal a ∷ []

-- the line of the command that a line gives the block, which has this ordinal and was answered so
abbrev pub line_answers : ℕ → ℕ → ScriptLine → Option ClientAnswer → List ReportLine
line_answers b ordinal l said =
    if is_given b l.instruction then answer_line b ordinal (answer_of l.instruction said) else []

-- the ordinal of the block's next command
abbrev pub next_ordinal : ℕ → ℕ → ScriptLine → ℕ
next_ordinal b ordinal l = if is_given b l.instruction then ordinal + 1 else ordinal

-- What a block's commands in these lines were answered, where the next of them has this ordinal and all answers are these.
abbrev pub answer_lines : ℕ → List parts.Said → ℕ → List ScriptLine → List ReportLine
answer_lines b said ordinal [] = []
answer_lines b said ordinal (l ∷ lines) =
    line_answers b ordinal l (told said ordinal) ++ answer_lines b said (next_ordinal b ordinal l) lines

-- WHAT CLIENTS KEEP

-- the same answers as a client keeps them
abbrev pub said_in : List Said → List parts.Said
said_in said = map said_as said

-- the answer at a place, if there is one
abbrev pub answer_at : List Said → Option ℕ → Option ClientAnswer
answer_at said place = option_and_then (λ k. option_map (λ (s : Said). s.answer) (slice_get said k)) place

-- the answers to all commands of a client
abbrev pub client_lines : {I O : Type 0} → List ScriptLine → Client I O → List ReportLine
client_lines lines c = answer_lines c.block.0 (said_in c.said.items) 0 lines
