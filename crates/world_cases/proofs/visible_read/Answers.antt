use Rattle.world_cases.proofs.Cases.{visible-read-ends}
use Rattle.world_cases.proofs.visible_read.Goals as goal

pub returns : goal.returns
returns c = visible-read-ends
