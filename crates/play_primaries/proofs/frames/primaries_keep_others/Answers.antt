-- The laws.
use Rattle.play_primaries.proofs.PrimarySteps.{own_steps_keep, hearing_keeps}
use Rattle.play_primaries.proofs.frames.primaries_keep_others.Goals as goal

pub returns-clause-owns : goal.returns-clause-owns
returns-clause-owns c = own_steps_keep

pub returns-clause-hears : goal.returns-clause-hears
returns-clause-hears c = hearing_keeps
