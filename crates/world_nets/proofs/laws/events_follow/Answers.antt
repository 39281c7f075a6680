use Rattle.world_nets.proofs.StepLemmas.{followed}
use Rattle.world_nets.proofs.laws.events_follow.Goals as goal

pub returns : goal.returns
returns c = followed
