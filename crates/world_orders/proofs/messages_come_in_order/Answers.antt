use Rattle.world_orders.proofs.AllOrdered.{all-ordered}
use Rattle.world_orders.proofs.messages_come_in_order.Goals as goal

pub returns : goal.returns
returns c nodes events = all-ordered nodes events
