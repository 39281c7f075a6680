-- By what the step does.
use Rattle.world_settling.proofs.LeadingEvents.{primaries-lower}
use Rattle.world_settling.proofs.primaries_lower.Goals as goal

pub returns : goal.returns
returns c = primaries-lower
