-- At the end of a play each of its reads has a result.
use Rattle.std.specs.Prelude.{ℕ, ◌≡◌, List, Result}
use Rattle.script_lang.specs.declared.instructions.ScriptLine.{ScriptLine}
use Rattle.read_core.specs.declared.reading.ReadFault.{ReadFault}
use Rattle.world.specs.Parts.{has_read}
use Rattle.world.specs.Safe.{Has}
use Rattle.world.specs.Worlds.{World}
use Rattle.play_model.specs.Lines.{Plays}
use Rattle.play_model.specs.States.{PlayState, world_of}
use Rattle.play_scripts.specs.Reads.{read_numbers}
use Rattle.world_readings.specs.Results.{ComesTo, Ends}

-- The reader with this number has a result: all bytes that it asked for, the node's refusal, or the end, and this just where
-- it has taken that, or where its dial wasn't answered.
pub record HasResult (w : World) (i : ℕ) : Type 0 where
  pub result : Result (List ℕ) ReadFault
  pub is : w.readers i ≡ has_read result
  pub came : ComesTo w i (has_read result)
  pub ends : Ends w i

-- So it is of the reader of each line that reads, at an end of the play of a script.
abbrev pub PlaysEndTheirReads : Type 0
PlaysEndTheirReads = (script : List ScriptLine) (end : PlayState) (i : ℕ) → Plays script end → Has (read_numbers script) i
    → HasResult (world_of end) i
