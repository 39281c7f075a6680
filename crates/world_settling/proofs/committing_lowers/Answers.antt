-- The answer, and then the end.
use Rattle.world_settling.proofs.LeadingEvents.{committing-lowers}
use Rattle.world_settling.proofs.committing_lowers.Goals as goal

pub returns : goal.returns
returns c = committing-lowers
