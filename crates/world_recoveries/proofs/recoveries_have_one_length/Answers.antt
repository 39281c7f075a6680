use Rattle.world_recoveries.proofs.Laws.{all-one-length}
use Rattle.world_recoveries.proofs.recoveries_have_one_length.Goals as goal

pub returns : goal.returns
returns c = all-one-length c.args.schedule.now.nodes c.args.schedule.now.events
