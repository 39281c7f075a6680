use Rattle.world_laws.specs.World.Worlds.{start}
use Rattle.world_laws.specs.World.Events.{run}
use Rattle.world_orders.proofs.AllOrdered.{all-ordered}
use Rattle.world_orders.proofs.Takes.{takes-in-order}
use Rattle.world_orders.proofs.messages_are_taken_in_order.Goals as goal

pub returns : goal.returns
returns c nodes events = takes-in-order (run (start nodes) events) (all-ordered nodes events)
