use Rattle.world_cases.proofs.Cases.{flush-mid-chunk-ends}
use Rattle.world_cases.proofs.flush_mid_chunk.Goals as goal

pub returns : goal.returns
returns c = flush-mid-chunk-ends
