use Rattle.world_laws.proofs.SetupLaws.{all-reach}
use Rattle.world_laws.proofs.answered_nodes_reach.Goals as goal

pub returns : goal.returns
returns c = all-reach c.args.schedule.now.nodes c.args.schedule.now.events
