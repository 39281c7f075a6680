use Rattle.world_breaks.proofs.AllUnbroken.{all-unbroken}
use Rattle.world_breaks.proofs.replicas_are_unbroken_without_faults.Goals as goal

pub returns : goal.returns
returns c = all-unbroken
