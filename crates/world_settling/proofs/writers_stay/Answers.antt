-- By what happens.
use Rattle.world_settling.proofs.Actors.{writers-stay}
use Rattle.world_settling.proofs.writers_stay.Goals as goal

pub returns : goal.returns
returns c = writers-stay
