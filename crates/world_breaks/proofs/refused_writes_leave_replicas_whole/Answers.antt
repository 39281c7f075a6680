use Rattle.world_breaks.proofs.Spared.{all-whole-again}
use Rattle.world_breaks.proofs.refused_writes_leave_replicas_whole.Goals as goal

pub returns : goal.returns
returns c = all-whole-again
