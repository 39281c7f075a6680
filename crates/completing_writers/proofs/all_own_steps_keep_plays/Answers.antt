use Rattle.completing_writers.proofs.AllSteps.{all-steps-keep}
use Rattle.completing_writers.proofs.all_own_steps_keep_plays.Goals as goal

pub returns : goal.returns
returns c = all-steps-keep
