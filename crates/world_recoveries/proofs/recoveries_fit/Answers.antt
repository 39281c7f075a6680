use Rattle.world_recoveries.proofs.AllRecovering.{all-recovering}
use Rattle.world_recoveries.proofs.recoveries_fit.Goals as goal

pub returns : goal.returns
returns c = all-recovering
