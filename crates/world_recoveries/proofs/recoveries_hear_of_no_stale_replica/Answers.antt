use Rattle.world_recoveries.proofs.AllNaming.{all-none-stale}
use Rattle.world_recoveries.proofs.recoveries_hear_of_no_stale_replica.Goals as goal

pub returns : goal.returns
returns c = all-none-stale c.args.schedule.now.nodes c.args.schedule.now.events
