use Rattle.world_nets.proofs.DrawnLemmas.{down-makes}
use Rattle.world_nets.proofs.laws.downs_make.Goals as goal

pub returns : goal.returns
returns c = down-makes
