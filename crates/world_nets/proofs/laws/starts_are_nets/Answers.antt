use Rattle.world_nets.proofs.StartLemmas.{starts}
use Rattle.world_nets.proofs.laws.starts_are_nets.Goals as goal

pub returns : goal.returns
returns c = starts
