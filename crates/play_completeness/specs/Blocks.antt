-- The blocks of a script that have commands.
use Rattle.std.specs.Prelude.{ℕ, ◌≡◌, ◌⊎◌, List, []}
use Rattle.script_lang.specs.declared.instructions.ScriptLine.{ScriptLine}
use Rattle.world.specs.Safe.{Has}
use Rattle.play_model.specs.Lines.{blocks_of}
use Rattle.play_scripts.specs.Fitting.{ScriptFits}
use Rattle.play_completeness.specs.Complete.{commands_of}

-- A block that a script which fits has commands of is made by one of its lines.
abbrev pub CommandsAreOfBlocks : Type 0
CommandsAreOfBlocks = (shelves : ℕ) (script : List ScriptLine) (b : ℕ) → ScriptFits shelves script
    → Has (blocks_of script) b ⊎ (commands_of b script ≡ [])
