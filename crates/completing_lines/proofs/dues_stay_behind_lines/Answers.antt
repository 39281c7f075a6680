use Rattle.completing_lines.proofs.Happening.{own-steps-follow, others-follow}
use Rattle.completing_lines.proofs.dues_stay_behind_lines.Goals as goal

pub returns : goal.returns
returns c = record { own = own-steps-follow; other = others-follow }
