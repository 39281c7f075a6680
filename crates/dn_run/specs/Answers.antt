-- The answers of a play that completes, in its report.
use Rattle.std.specs.Prelude.{ℕ, ◌≡◌, Bool, true, false, List}
use Rattle.whole_play.specs.PlayCompleteness.Complete.{commands_of, KeepsMembers, IsComplete}
use Rattle.whole_play.specs.PlayModel.Lines.{blocks_of}
use Rattle.whole_play.specs.PlayReport.Reports.{all_answers}
use Rattle.script_lang.specs.declared.instructions.ScriptLine.{ScriptLine}
use Rattle.script_lang.specs.declared.report.Answer.{Answer}
use Rattle.script_lang.specs.declared.report.Answer.TheVariants as answer
use Rattle.script_lang.specs.declared.report.FlushResult.TheVariants as flush
use Rattle.script_lang.specs.declared.report.ReportLine.{ReportLine}
use Rattle.script_lang.specs.declared.report.ReportLine.TheVariants as line
use Rattle.script_lang.specs.declared.report.SetupResult.TheVariants as setup
use Rattle.world.specs.Safe.{Has}
use Rattle.world.specs.Worlds.{World}

-- the result of a command is an `ok`
abbrev pub says_ok : Answer → Bool
says_ok (answer.Create (setup.Ok stamp)) = true
says_ok (answer.Append (setup.Ok stamp)) = true
says_ok (answer.Hflush (flush.Ok length stamp members)) = true
says_ok (answer.Hsync (flush.Ok length stamp members)) = true
says_ok (answer.Close (flush.Ok length stamp members)) = true
says_ok other = false

-- so says a line of a report
abbrev pub is_ok_line : ReportLine → Bool
is_ok_line (line.Answer block ordinal a) = says_ok a
is_ok_line other = false

-- So says each line that tells what a command of these lines was answered.
abbrev pub AnswersAreOk : World → List ScriptLine → Type 0
AnswersAreOk w lines = (l : ReportLine) → Has (all_answers w (blocks_of lines) lines) l → is_ok_line l ≡ true

-- Each append of a block among these lines names the members of the block's create, in the same order.
abbrev pub AppendsKeepMembers : List ScriptLine → Type 0
AppendsKeepMembers lines = (b : ℕ) → KeepsMembers (commands_of b lines)

-- Each command of these lines was answered well, as the report tells, and blocks that are closed last are whole at all
-- their members.
pub record Completes (lines : List ScriptLine) (w : World) : Type 0 where
  pub complete : IsComplete lines w
  pub answers : AnswersAreOk w lines
