-- By what the office has answered.
use Rattle.world_settling.proofs.LeadingEvents.{recoveries-lower}
use Rattle.world_settling.proofs.recoveries_lower.Goals as goal

pub returns : goal.returns
returns c = recoveries-lower
