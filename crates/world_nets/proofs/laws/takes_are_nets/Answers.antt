use Rattle.world_nets.proofs.StepLemmas.{taken-net}
use Rattle.world_nets.proofs.laws.takes_are_nets.Goals as goal

pub returns : goal.returns
returns c = taken-net
