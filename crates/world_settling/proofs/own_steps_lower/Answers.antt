-- By what the step does.
use Rattle.world_settling.proofs.OwnEvents.{own-steps-lower}
use Rattle.world_settling.proofs.own_steps_lower.Goals as goal

pub returns : goal.returns
returns c = own-steps-lower
