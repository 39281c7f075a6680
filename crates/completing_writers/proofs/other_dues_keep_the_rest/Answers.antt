use Rattle.completing_writers.proofs.Delivering.{others-keep}
use Rattle.completing_writers.proofs.other_dues_keep_the_rest.Goals as goal

pub returns : goal.returns
returns c = others-keep
