-- The laws.
use Rattle.play_primaries.proofs.OtherSteps.{writing_keeps, acks_keep}
use Rattle.play_primaries.proofs.frames.writers_keep_primaries.Goals as goal

pub returns-clause-acts : goal.returns-clause-acts
returns-clause-acts c = writing_keeps

pub returns-clause-hears : goal.returns-clause-hears
returns-clause-hears c = acks_keep
