use Rattle.world_nets.proofs.DrawnLemmas.{asks-make}
use Rattle.world_nets.proofs.laws.asks_make.Goals as goal

pub returns : goal.returns
returns c = asks-make
