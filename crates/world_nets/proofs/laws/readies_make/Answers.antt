use Rattle.world_nets.proofs.DrawnLemmas.{ready-makes}
use Rattle.world_nets.proofs.laws.readies_make.Goals as goal

pub returns : goal.returns
returns c = ready-makes
