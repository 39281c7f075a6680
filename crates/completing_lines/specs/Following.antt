-- The lines of a script in a play without failures: each gives the writer of its block a command that fits those before it,
-- if it gives one, and a play stays as it should be from line to line, up to its end.
use Rattle.std.specs.Prelude.{ℕ, suc, ◌≡◌, ◌≤◌, ◌<◌, true, false, List, [], ◌∷◌, ◌++◌}
use Rattle.hd_base.specs.declared.numbers.BlockId.{BlockId}
use Rattle.hd_base.specs.SumRules.{IsChunkSize}
use Rattle.script_lang.specs.declared.instructions.Instruction.{Instruction}
use Rattle.script_lang.specs.Fits.{Before, most_bytes, after}
use Rattle.writer_core.specs.declared.commands.Command.{Command}
use Rattle.writer_core.specs.declared.intake.TheConstants.{MAX_COMMANDS}
use Rattle.writer_core.specs.Commands.{queued_bytes}
use Rattle.completing_writers.specs.World.Worlds.{add}
use Rattle.play_model.specs.declared.dues.Due.{Due}
use Rattle.play_model.specs.declared.dues.Due.TheVariants as due
use Rattle.play_model.specs.States.{PlayState, world_of, opened, ordered}
use Rattle.play_model.specs.Dues.{is_due, after_due}
use Rattle.play_lines.specs.PlayScripts.Fitting.{LineFits, begun}
use Rattle.play_lines.specs.Lines.{GivenIs}
use Rattle.play_lines.specs.Showing.{given_in}
use Rattle.completing_writers.specs.PlayCompleteness.Complete.{line_commands, KeepsMembers, WritesBytes}
use Rattle.completing_writers.specs.PlayCompleteness.Played.{Played}
use Rattle.completing_writers.specs.Steps.{PlaysWell, is_own}

-- A play that is as it should be stands behind lines, so many, that tell this: what each block's writer was given, with
-- what is queued for it, is what the lines tell, and its commands write no more bytes than the lines do.
pub record Follows (before : Before) (lines : ℕ) (p : PlayState) (commands : ℕ → List Command) : Type 0 where
  pub well : PlaysWell p commands
  pub nodes : before.nodes ≡ p.nodes
  pub written : before.written ≤ most_bytes
  pub chunks : (b : ℕ) → IsChunkSize (p.rules b).chunk
  pub given : (b : ℕ) → GivenIs before lines b (given_in p b)
  pub bytes : (b : ℕ) → queued_bytes (commands b) ≤ before.written

-- A play that was only opened stands behind the first two lines.
abbrev pub OpenedFollows : Type 0
OpenedFollows = (nodes seed : ℕ) → nodes ≤ 16 → Follows (begun nodes seed) 0 (opened nodes seed) (λ b. [])

-- A line that fits those before it gives the writer of a block this command: the play stands behind it, too.
abbrev pub CommandsFollow : Type 0
CommandsFollow = (before : Before) (lines : ℕ) (line : Instruction) (b : ℕ) (c : Command) (p : PlayState)
    (commands : ℕ → List Command) → Follows before lines p commands → lines < MAX_COMMANDS → LineFits before line →
    line_commands b line ≡ c ∷ [] → WritesBytes (c ∷ []) → KeepsMembers (commands b ++ c ∷ [])
    → Follows (after before line) (suc lines) (ordered p b c) (add commands b (c ∷ []))

-- WHAT IS DUE

-- Such a play stands behind the same lines after a writer's own step that is due,
abbrev pub OwnStepsFollow : Type 0
OwnStepsFollow = (before : Before) (lines : ℕ) (p : PlayState) (commands : ℕ → List Command) (b : BlockId) →
    Follows before lines p commands → is_due (world_of p) p.queues (due.Own b) ≡ true
    → Follows before lines (after_due p (due.Own b)) commands

-- and after what else is due, where `Played` holds after it.
abbrev pub OthersFollow : Type 0
OthersFollow = (before : Before) (lines : ℕ) (p : PlayState) (commands : ℕ → List Command) (d : Due) → is_own d ≡ false →
    Follows before lines p commands → Played (after_due p d) commands
    → Follows before lines (after_due p d) commands
