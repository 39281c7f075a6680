use Rattle.world_orders.specs.World.Worlds.{start}
use Rattle.world_orders.specs.World.Events.{run}
use Rattle.recovery_events.proofs.OrderLemmas.{one_block}
use Rattle.recovery_events.proofs.laws.recoveries_name_one_block.Goals as goal

pub returns : goal.returns
returns c nodes events = one_block (run (start nodes) events) (c.recoveries_fit.ensures nodes events).asks
