-- Exits: their numbers and names, and those of faults.
use Rattle.std.specs.Prelude.{ℕ, Bool, true, false, List, codes}
use Rattle.script_lang.specs.declared.faults.BadKind.TheVariants as kind
use Rattle.script_lang.specs.declared.faults.ScriptError.{ScriptError}
use Rattle.script_lang.specs.declared.faults.ScriptError.TheVariants as error
use Rattle.run_words.specs.declared.faults.WordsFault.{WordsFault}
use Rattle.run_words.specs.declared.faults.WordsFault.TheVariants as words
use Rattle.whole_play.specs.declared.faults.RunFault.{RunFault}
use Rattle.whole_play.specs.declared.faults.RunFault.TheVariants as run
use Rattle.dn_run.specs.declared.exits.Exit.{Exit}
use Rattle.dn_run.specs.declared.exits.Exit.TheVariants as exit
use Rattle.whole_streams.specs.declared.streams.ReadFault.{ReadFault}
use Rattle.whole_streams.specs.declared.streams.ReadFault.TheVariants as read

-- each exit's number; 9 and 10 are no exit's so far
abbrev pub status_of : Exit → ℕ
status_of exit.Done = 0
status_of (exit.Usage rule) = 1
status_of (exit.BadScript line kind) = 2
status_of exit.ScriptFault = 3
status_of exit.ReportFault = 4
status_of exit.Memory = 5
status_of (exit.Differs line want got) = 6
status_of (exit.ShelfFault node) = 7
status_of exit.RoadFault = 8
status_of (exit.NotEmpty node name) = 11

-- each exit's name
abbrev pub name_of : Exit → List ℕ
name_of exit.Done = codes "Done"
name_of (exit.Usage rule) = codes "Usage"
name_of (exit.BadScript line kind) = codes "BadScript"
name_of exit.ScriptFault = codes "ScriptFault"
name_of exit.ReportFault = codes "ReportFault"
name_of exit.Memory = codes "Memory"
name_of (exit.Differs line want got) = codes "Differs"
name_of (exit.ShelfFault node) = codes "ShelfFault"
name_of exit.RoadFault = codes "RoadFault"
name_of (exit.NotEmpty node name) = codes "NotEmpty"

-- a whole report was written
abbrev pub is_told : Exit → Bool
is_told exit.Done = true
is_told (exit.Differs line want got) = true
is_told other = false

-- the exit of a fault, by what failed
abbrev pub words_exit : WordsFault → Exit
words_exit (words.Usage rule) = exit.Usage rule
words_exit words.Memory = exit.Memory

abbrev pub read_exit : ReadFault → Exit
read_exit read.TooLong = exit.BadScript 0 kind.TooLong
read_exit read.Failed = exit.ScriptFault
read_exit read.Memory = exit.Memory

abbrev pub script_exit : ScriptError → Exit
script_exit (error.Bad line kind) = exit.BadScript line kind
script_exit error.Memory = exit.Memory

abbrev pub run_exit : RunFault → Exit
run_exit run.RoadFault = exit.RoadFault
run_exit (run.ShelfFault node) = exit.ShelfFault node
run_exit (run.NotEmpty node name) = exit.NotEmpty node name
run_exit run.Memory = exit.Memory
