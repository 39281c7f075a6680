use Rattle.primary_events.proofs.CanHearLaws.{can_hear}
use Rattle.primary_events.proofs.laws.primaries_can_hear.Goals as goal

pub returns : goal.returns
returns c = can_hear
