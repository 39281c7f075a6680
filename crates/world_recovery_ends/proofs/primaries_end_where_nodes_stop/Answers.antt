use Rattle.world_recovery_ends.proofs.Stopping.{all-have-stopped}
use Rattle.world_recovery_ends.proofs.primaries_end_where_nodes_stop.Goals as goal

pub returns : goal.returns
returns c nodes events i l is dead = all-have-stopped nodes events i l is dead
