use Rattle.world_nets.proofs.StepLemmas.{idle-net}
use Rattle.world_nets.proofs.laws.idle_flushes_are_nets.Goals as goal

pub returns : goal.returns
returns c = idle-net
