use Rattle.world_orders.specs.World.Worlds.{start}
use Rattle.world_orders.specs.World.Events.{run}
use Rattle.recovery_events.proofs.OrderLemmas.{take_recoveries}
use Rattle.recovery_events.proofs.laws.recoveries_come_in_order.Goals as goal

pub returns : goal.returns
returns c nodes events = take_recoveries (run (start nodes) events) (c.messages_come_in_order.ensures nodes events)
