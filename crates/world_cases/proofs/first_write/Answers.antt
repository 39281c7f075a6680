use Rattle.world_cases.proofs.Cases.{first-write-ends}
use Rattle.world_cases.proofs.first_write.Goals as goal

pub returns : goal.returns
returns c = first-write-ends
