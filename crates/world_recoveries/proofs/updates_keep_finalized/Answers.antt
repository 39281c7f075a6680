use Rattle.world_recoveries.proofs.Laws.{all-keep-finalized}
use Rattle.world_recoveries.proofs.updates_keep_finalized.Goals as goal

pub returns : goal.returns
returns c = all-keep-finalized c.args.schedule.now.nodes c.args.schedule.now.events
