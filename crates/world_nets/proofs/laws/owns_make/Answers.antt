use Rattle.world_nets.proofs.DrawnLemmas.{own-makes}
use Rattle.world_nets.proofs.laws.owns_make.Goals as goal

pub returns : goal.returns
returns c = own-makes
