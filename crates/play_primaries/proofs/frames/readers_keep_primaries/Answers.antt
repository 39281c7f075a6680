-- The laws.
use Rattle.play_primaries.proofs.OtherSteps.{asking_keeps, pieces_keep}
use Rattle.play_primaries.proofs.frames.readers_keep_primaries.Goals as goal

pub returns-clause-asks : goal.returns-clause-asks
returns-clause-asks c = asking_keeps

pub returns-clause-hears : goal.returns-clause-hears
returns-clause-hears c = pieces_keep
