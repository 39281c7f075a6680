use Rattle.world_cases.proofs.Cases.{block-recovery-ends}
use Rattle.world_cases.proofs.block_recovery.Goals as goal

pub returns : goal.returns
returns c = block-recovery-ends
