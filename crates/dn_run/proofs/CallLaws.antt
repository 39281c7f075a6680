-- What a call does, by what its words ask for.
use Rattle.std.proofs.Common.{◌≡◌, ℕ, Bool, List, Option, Result, Ok, Err, inr, refl, sym, ap, ◌∙◌}
use Rattle.hd_base.specs.declared.files.Files as files
use Rattle.hd_base.specs.declared.roads.Roads as roads
use Rattle.hd_base.specs.declared.shelves.Shelf as shelves
use Rattle.hd_base.specs.declared.streams.Sink as sinks
use Rattle.hd_base.specs.declared.streams.Source as sources
use Rattle.run_words.specs.Calls.{words_of}
use Rattle.run_words.specs.declared.call.Mode.{Mode}
use Rattle.run_words.specs.declared.call.Words.{Words}
use Rattle.run_words.specs.declared.faults.UsageRule.{UsageRule}
use Rattle.dn_run.specs.Calling.{IsUnused, Runs}
use Rattle.dn_run.specs.Runs.{HasExitCause}
use Rattle.dn_run.specs.Tasks.{task_of, said_task, asked_by, UsageFor, ReadsTask}
use Rattle.dn_run.specs.declared.exits.Exit.{Exit}
use Rattle.dn_run.specs.declared.exits.Exit.TheVariants as exit
use Rattle.dn_run.specs.declared.tasks.Task.{Task}

-- Words that were read ask for what their mode and number say.
pub asks_for : (said : List (List ℕ)) (words : Words) (mode : Mode) (number : Option ℕ) → words_of said ≡ Ok words → words.mode ≡ mode → words.number ≡ number → task_of said ≡ asked_by mode number
asks_for said words mode number read is at =
    ap said_task read ∙ (ap (λ (m : Mode). asked_by m words.number) is ∙ ap (asked_by mode) at)

-- What was read breaks no rule, and what wasn't read breaks this one, but for want of memory.
pub unread_usage : (asked : Result Task UsageRule) (ended : Exit) → ReadsTask asked (Err ended) → UsageFor asked ended
unread_usage (Ok t) ended e = λ r used. never r (sym used ∙ e)
  where
    never : (r : UsageRule) → exit.Usage r ≡ exit.Memory → ⊥
    never r e = cc
unread_usage (Err r) ended h = h

module _ {I O S D R L M : Type 0} (i : sources.Ghosts I) (o : sinks.Ghosts O) (s : shelves.Ghosts S D) (d : files.Ghosts D) (r : roads.Ghosts R L M) (script : I) (report : O) (shelf : List S) (road : R) where
  pub unread_runs : (asked : Result Task UsageRule) (tells : Bool) (ended : Exit) → ReadsTask asked (Err ended) → Runs asked tells i o s d r script script report report shelf shelf road road ended
  unread_runs (Ok t) tells ended e = inr (unused, e)
    where
      unused : IsUnused script script report report shelf shelf road road
      unused = record { source = refl; sink = refl; shelves = refl; roads = refl }
  unread_runs (Err u) tells ended h = (unused, h)
    where
      unused : IsUnused script script report report shelf shelf road road
      unused = record { source = refl; sink = refl; shelves = refl; roads = refl }

-- A script that was run had words that break no rule.
module _ {I O S D R L M : Type 0} (i : sources.Ghosts I) (o : sinks.Ghosts O) (s : shelves.Ghosts S D) (r : roads.Ghosts R L M) (script script' : I) (report report' : O) (old new : List S) (road road' : R) where
  pub script_usage : (tells : Bool) (ended : Exit) (t : Task) → HasExitCause tells i o s r script script' report report' old new road road' ended → UsageFor (Ok t) ended
  script_usage tells exit.Done t c = λ r e. cc
  script_usage tells (exit.Differs line want got) t c = λ r e. cc
  script_usage tells exit.ReportFault t c = λ r e. cc
  script_usage tells exit.Memory t c = λ r e. cc
  script_usage tells (exit.Usage u) t c = absurd c
  script_usage tells (exit.BadScript line why) t c = λ r e. cc
  script_usage tells exit.ScriptFault t c = λ r e. cc
  script_usage tells (exit.ShelfFault node) t c = λ r e. cc
  script_usage tells exit.RoadFault t c = λ r e. cc
  script_usage tells (exit.NotEmpty node name) t c = λ r e. cc
