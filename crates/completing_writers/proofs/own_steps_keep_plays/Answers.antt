use Rattle.completing_writers.proofs.OwnSteps.{own-steps-keep}
use Rattle.completing_writers.proofs.own_steps_keep_plays.Goals as goal

pub returns : goal.returns
returns c = own-steps-keep
