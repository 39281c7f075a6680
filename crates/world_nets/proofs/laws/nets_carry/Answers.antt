use Rattle.world_nets.proofs.StartLemmas.{carries}
use Rattle.world_nets.proofs.laws.nets_carry.Goals as goal

pub returns : goal.returns
returns c = carries
