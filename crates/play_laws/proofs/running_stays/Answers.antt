use Rattle.play_laws.proofs.Running.{running-stays}
use Rattle.play_laws.proofs.running_stays.Goals as goal

pub returns : goal.returns
returns c = running-stays
