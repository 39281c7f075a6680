-- What a call asks for.
use Rattle.std.specs.Prelude.{◌≡◌, ◌⊎◌, ℕ, List, Option, Some, None, Result, Ok, Err}
use Rattle.run_words.specs.Calls.{words_of}
use Rattle.run_words.specs.declared.call.Mode.{Mode}
use Rattle.run_words.specs.declared.call.Mode.TheVariants as mode
use Rattle.run_words.specs.declared.call.Words.{Words}
use Rattle.run_words.specs.declared.faults.UsageRule.{UsageRule}
use Rattle.run_words.specs.declared.faults.UsageRule.TheVariants as rule
use Rattle.dn_run.specs.declared.exits.Exit.{Exit}
use Rattle.dn_run.specs.declared.exits.Exit.TheVariants as exit
use Rattle.dn_run.specs.declared.tasks.Task.{Task}
use Rattle.dn_run.specs.declared.tasks.Task.TheVariants as task

-- a storm needs a number
abbrev pub storm_asked : Option ℕ → Result Task UsageRule
storm_asked (Some number) = Ok (task.Storm number)
storm_asked None = Err rule.Number

-- no live run so far
abbrev pub asked_by : Mode → Option ℕ → Result Task UsageRule
asked_by mode.Play number = Ok task.Play
asked_by mode.Storm number = storm_asked number
asked_by mode.Live number = Err rule.Mode

abbrev pub said_task : Result Words UsageRule → Result Task UsageRule
said_task (Ok words) = asked_by words.mode words.number
said_task (Err r) = Err r

-- what the words ask for, or the first rule that they break
abbrev pub task_of : List (List ℕ) → Result Task UsageRule
task_of words = said_task (words_of words)

-- Usage comes exactly where the words break a rule, but for want of memory.
abbrev pub UsageFor : {T : Type 0} → Result T UsageRule → Exit → Type 0
UsageFor (Err r) ended = (ended ≡ exit.Usage r) ⊎ (ended ≡ exit.Memory)
UsageFor (Ok asked) ended = (r : UsageRule) → ended ≡ exit.Usage r → ⊥

-- So they are read, or memory ran out.
abbrev pub ReadsTask : Result Task UsageRule → Result Task Exit → Type 0
ReadsTask asked (Ok t) = asked ≡ Ok t
ReadsTask (Ok t) (Err ended) = ended ≡ exit.Memory
ReadsTask (Err r) (Err ended) = (ended ≡ exit.Usage r) ⊎ (ended ≡ exit.Memory)
