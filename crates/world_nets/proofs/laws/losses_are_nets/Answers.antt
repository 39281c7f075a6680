use Rattle.world_nets.proofs.StepLemmas.{lost-net}
use Rattle.world_nets.proofs.laws.losses_are_nets.Goals as goal

pub returns : goal.returns
returns c = lost-net
