use Rattle.world_closings.proofs.Laws.{all-safe}
use Rattle.world_closings.proofs.safe_law.Goals as goal

pub returns : goal.returns
returns c = all-safe c.args.schedule.now.nodes c.args.schedule.now.events c.requires.high
