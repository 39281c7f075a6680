use Rattle.reader_events.proofs.CanHearLaws.{can_hear}
use Rattle.reader_events.proofs.laws.readers_can_hear.Goals as goal

pub returns : goal.returns
returns c = can_hear
