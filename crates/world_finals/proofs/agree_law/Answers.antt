use Rattle.world_finals.proofs.Laws.{all-agree}
use Rattle.world_finals.proofs.agree_law.Goals as goal

pub returns : goal.returns
returns c = all-agree c.args.schedule.now.nodes c.args.schedule.now.events
