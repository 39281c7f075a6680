-- By what is asked.
use Rattle.world_settling.proofs.LeadingEvents.{telling-keeps}
use Rattle.world_settling.proofs.telling_keeps.Goals as goal

pub returns : goal.returns
returns c = telling-keeps
