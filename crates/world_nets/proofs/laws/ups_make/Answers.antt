use Rattle.world_nets.proofs.DrawnLemmas.{up-makes}
use Rattle.world_nets.proofs.laws.ups_make.Goals as goal

pub returns : goal.returns
returns c = up-makes
