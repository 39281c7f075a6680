-- What is heard changes only how it stands with a member.
use Rattle.world_settling.proofs.LeadingEvents.{primaries-hear}
use Rattle.world_settling.proofs.primaries_hear.Goals as goal

pub returns : goal.returns
returns c = primaries-hear
