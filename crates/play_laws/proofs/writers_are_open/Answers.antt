use Rattle.world_orders.proofs.AllOpen.{all-open}
use Rattle.play_laws.proofs.writers_are_open.Goals as goal

pub returns : goal.returns
returns c nodes events = (all-open nodes events).writers
