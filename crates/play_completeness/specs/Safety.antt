-- The headline, of plays.
use Rattle.std.specs.Prelude.{ℕ, List}
use Rattle.script_lang.specs.declared.instructions.ScriptLine.{ScriptLine}
use Rattle.world.specs.Safe.{Safe}
use Rattle.play_model.specs.Lines.{Plays}
use Rattle.play_model.specs.States.{PlayState, world_of}
use Rattle.play_scripts.specs.Fitting.{ScriptFits}

-- The world in which a play of a script that fits ends is safe.
abbrev pub PlaysAreSafe : Type 0
PlaysAreSafe = (shelves : ℕ) (script : List ScriptLine) (end : PlayState) → ScriptFits shelves script → Plays script end →
    Safe (world_of end)
