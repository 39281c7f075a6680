use Rattle.world_breaks.proofs.AllUnbroken.{whole-found}
use Rattle.world_breaks.proofs.whole_replicas_are_found.Goals as goal

pub returns : goal.returns
returns c = whole-found
