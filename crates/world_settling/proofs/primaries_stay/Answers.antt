-- By what happens.
use Rattle.world_settling.proofs.Actors.{primaries-stay}
use Rattle.world_settling.proofs.primaries_stay.Goals as goal

pub returns : goal.returns
returns c = primaries-stay
