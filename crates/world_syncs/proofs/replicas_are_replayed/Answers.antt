use Rattle.world_syncs.proofs.Telling.{all-replayed}
use Rattle.world_syncs.proofs.replicas_are_replayed.Goals as goal

pub returns : goal.returns
returns c = all-replayed
