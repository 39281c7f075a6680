use Rattle.world_cases.proofs.Cases.{appended-ends}
use Rattle.world_cases.proofs.appended.Goals as goal

pub returns : goal.returns
returns c = appended-ends
