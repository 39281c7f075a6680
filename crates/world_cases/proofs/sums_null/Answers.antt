use Rattle.world_cases.proofs.Cases.{sums-null-ends}
use Rattle.world_cases.proofs.sums_null.Goals as goal

pub returns : goal.returns
returns c = sums-null-ends
