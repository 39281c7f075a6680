use Rattle.world_orders.proofs.AllOpen.{all-open}
use Rattle.world_orders.proofs.takers_are_open.Goals as goal

pub returns : goal.returns
returns c nodes events = all-open nodes events
