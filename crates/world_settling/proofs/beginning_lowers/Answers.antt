-- The answer, and then the first step.
use Rattle.world_settling.proofs.LeadingEvents.{beginning-lowers}
use Rattle.world_settling.proofs.beginning_lowers.Goals as goal

pub returns : goal.returns
returns c = beginning-lowers
