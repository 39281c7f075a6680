use Rattle.world_laws.proofs.ByteLaws.{prefix}
use Rattle.world_laws.proofs.prefix_law.Goals as goal

pub returns : goal.returns
returns c = prefix c.args.schedule.now.nodes c.args.schedule.now.events
