use Rattle.world_cases.proofs.Cases.{restart-ends}
use Rattle.world_cases.proofs.restart.Goals as goal

pub returns : goal.returns
returns c = restart-ends
