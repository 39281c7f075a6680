use Rattle.world_nets.proofs.DialLemmas.{dialled-net}
use Rattle.world_nets.proofs.laws.dials_are_nets.Goals as goal

pub returns : goal.returns
returns c = dialled-net
