use Rattle.world_nets.proofs.StepLemmas.{changed-net}
use Rattle.world_nets.proofs.laws.changes_are_nets.Goals as goal

pub returns : goal.returns
returns c = changed-net
