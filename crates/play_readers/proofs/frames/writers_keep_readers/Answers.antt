-- The laws.
use Rattle.play_readers.proofs.OtherSteps.{own_steps_keep, hearing_keeps}
use Rattle.play_readers.proofs.frames.writers_keep_readers.Goals as goal

pub returns-clause-acts : goal.returns-clause-acts
returns-clause-acts c = own_steps_keep

pub returns-clause-hears : goal.returns-clause-hears
returns-clause-hears c = hearing_keeps
