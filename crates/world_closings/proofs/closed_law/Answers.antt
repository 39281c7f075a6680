use Rattle.world_closings.proofs.Laws.{all-closed}
use Rattle.world_closings.proofs.closed_law.Goals as goal

pub returns : goal.returns
returns c = all-closed c.args.schedule.now.nodes c.args.schedule.now.events c.requires.high
