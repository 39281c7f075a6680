use Rattle.primary_events.proofs.CanHearLaws.{can_lead}
use Rattle.primary_events.proofs.laws.primaries_can_lead.Goals as goal

pub returns : goal.returns
returns c = can_lead
