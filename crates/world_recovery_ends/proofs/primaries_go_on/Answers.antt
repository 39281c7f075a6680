use Rattle.world_recovery_ends.proofs.Going.{all-go-on}
use Rattle.world_recovery_ends.proofs.primaries_go_on.Goals as goal

pub returns : goal.returns
returns c nodes events i l is alive = all-go-on nodes events i l is alive
