use Rattle.world_cases.proofs.Cases.{sums-sixteen-ends}
use Rattle.world_cases.proofs.sums_sixteen.Goals as goal

pub returns : goal.returns
returns c = sums-sixteen-ends
