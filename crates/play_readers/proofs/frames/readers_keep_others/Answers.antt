-- The laws.
use Rattle.play_readers.proofs.ReaderSteps.{asking_keeps, hearing_keeps}
use Rattle.play_readers.proofs.frames.readers_keep_others.Goals as goal

pub returns-clause-asks : goal.returns-clause-asks
returns-clause-asks c = asking_keeps

pub returns-clause-hears : goal.returns-clause-hears
returns-clause-hears c = hearing_keeps
