use Rattle.world_cases.proofs.Cases.{file-fault-ends}
use Rattle.world_cases.proofs.file_fault.Goals as goal

pub returns : goal.returns
returns c = file-fault-ends
