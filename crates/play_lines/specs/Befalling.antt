-- What befalls leaves of a play.
use Rattle.std.specs.Prelude.{◌≡◌, length}
use Rattle.play_lines.specs.declared.playing.Playing.{Playing}

-- All but the player and the numbers of its nodes is as it was, and there are as many numbers.
pub record KeepsRest {F I O : Type 0} (old new : Playing F I O) : Type 0 where
  pub same : new ≡ record old { player = new.player; faults = new.faults }
  pub count : length new.faults.items ≡ length old.faults.items
