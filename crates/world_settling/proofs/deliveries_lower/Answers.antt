use Rattle.world_settling.proofs.Deliveries.{deliveries-lower}
use Rattle.world_settling.proofs.deliveries_lower.Goals as goal

pub returns : goal.returns
returns c = deliveries-lower
