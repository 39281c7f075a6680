use Rattle.world_nets.proofs.EndLemmas.{exchanged-over}
use Rattle.world_nets.proofs.laws.exchanges_keep_takers.Goals as goal

pub returns : goal.returns
returns c = exchanged-over
