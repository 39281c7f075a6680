-- The law is proved of definitions alone.
use Rattle.play_scripts.proofs.StormFits.{storms_fit}
use Rattle.play_scripts.proofs.laws.storms_fit.Goals as goal

pub returns : goal.returns
returns c = storms_fit
