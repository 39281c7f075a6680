use Rattle.world_cases.proofs.Cases.{cut-stream-ends}
use Rattle.world_cases.proofs.cut_stream.Goals as goal

pub returns : goal.returns
returns c = cut-stream-ends
