-- The scripts of storms fit.
use Rattle.std.specs.Prelude.{ℕ, ◌≤◌}
use Rattle.script_lang.specs.Storms.{storm}
use Rattle.play_scripts.specs.Fitting.{ScriptFits}

-- A storm has five nodes.
abbrev pub StormsFit : Type 0
StormsFit = (shelves number : ℕ) → 5 ≤ shelves → ScriptFits shelves (storm number)
