-- What a call does, by what it asks for.
use Rattle.std.specs.Prelude.{◌≡◌, ◌⊎◌, ◌+◌, ℕ, Bool, List, length, Result, Ok, Err}
use Rattle.hd_base.specs.declared.files.Files as files
use Rattle.hd_base.specs.declared.roads.Roads as roads
use Rattle.hd_base.specs.declared.shelves.Shelf as shelves
use Rattle.hd_base.specs.declared.streams.Sink as sinks
use Rattle.hd_base.specs.declared.streams.Source as sources
use Rattle.run_words.specs.declared.faults.UsageRule.{UsageRule}
use Rattle.whole_streams.specs.Streams.{TookSome}
use Rattle.dn_run.specs.declared.exits.Exit.{Exit}
use Rattle.dn_run.specs.declared.exits.Exit.TheVariants as exit
use Rattle.dn_run.specs.declared.tasks.Task.{Task}
use Rattle.dn_run.specs.declared.tasks.Task.TheVariants as task
use Rattle.dn_run.specs.Reading.{script_limit}
use Rattle.dn_run.specs.Runs.{IsBadIn, RefusesIn, IsUntouched, KeepsShelves, HasExitCause, CanRun, NoneRose, IsPlainExit, IsOver}
use Rattle.dn_run.specs.Storming.{RefusesStorm, RunsStorm, StormsKeep}

-- All is as it was.
pub record IsUnused {I O S R : Type 0} (script script' : I) (report report' : O) (old new : List S) (road road' : R)
    : Type 0 where
  pub source : script' ≡ script
  pub sink : report' ≡ report
  pub shelves : new ≡ old
  pub roads : road' ≡ road

-- The script that the source gives was played and reported, or it wasn't for a cause.
pub record RunsScript {I O S D R L M : Type 0} (tells : Bool) (i : sources.Ghosts I) (o : sinks.Ghosts O)
    (s : shelves.Ghosts S D) (d : files.Ghosts D) (r : roads.Ghosts R L M) (script script' : I) (report report' : O)
    (old new : List S) (road road' : R) (ended : Exit) : Type 0 where
  pub bad : IsBadIn tells (i.left script) (length old) ended
  pub refused : RefusesIn tells (i.left script) (length old) ended
  pub taken : TookSome (i.left script) (i.left script') (script_limit + 1)
  pub untouched : IsUntouched old new road road' ended
  pub kept : KeepsShelves tells s (i.left script) old new
  pub cause : HasExitCause tells i o s r script script' report report' old new road road' ended
  pub faultless : CanRun tells s (i.left script) old →
      NoneRose i o s r script script' report report' old new road road' → IsPlainExit ended
  pub over : IsOver tells i o s d r script script' report report' old new road' ended

-- The storm of a number was played and summed up, or it wasn't for a cause; nothing was read.
pub record RunsStormOf {I O S D R L M : Type 0} (tells : Bool) (o : sinks.Ghosts O) (s : shelves.Ghosts S D)
    (d : files.Ghosts D) (r : roads.Ghosts R L M) (number : ℕ) (script script' : I) (report report' : O)
    (old new : List S) (road road' : R) (ended : Exit) : Type 0 where
  pub storms : RunsStorm tells o s d r number report report' old new road road' ended
  pub refused : RefusesStorm tells (length old) number ended
  pub keeps : StormsKeep s old new
  pub unread : script' ≡ script

abbrev pub RunsTask : {I O S D R L M : Type 0} → Task → Bool → sources.Ghosts I → sinks.Ghosts O → shelves.Ghosts S D →
    files.Ghosts D → roads.Ghosts R L M → I → I → O → O → List S → List S → R → R → Exit → Type 0
RunsTask task.Play tells i o s d r script script' report report' old new road road' ended =
    RunsScript tells i o s d r script script' report report' old new road road' ended
RunsTask (task.Storm number) tells i o s d r script script' report report' old new road road' ended =
    RunsStormOf tells o s d r number script script' report report' old new road road' ended

-- What was asked for is run. Words that break a rule leave all as it was, and so does want of memory for them.
abbrev pub Runs : {I O S D R L M : Type 0} → Result Task UsageRule → Bool → sources.Ghosts I → sinks.Ghosts O →
    shelves.Ghosts S D → files.Ghosts D → roads.Ghosts R L M → I → I → O → O → List S → List S → R → R → Exit → Type 0
Runs (Ok asked) tells i o s d r script script' report report' old new road road' ended =
    RunsTask asked tells i o s d r script script' report report' old new road road' ended
    ⊎ (IsUnused script script' report report' old new road road' × (ended ≡ exit.Memory))
Runs (Err rule) tells i o s d r script script' report report' old new road road' ended =
    IsUnused script script' report report' old new road road' × ((ended ≡ exit.Usage rule) ⊎ (ended ≡ exit.Memory))
