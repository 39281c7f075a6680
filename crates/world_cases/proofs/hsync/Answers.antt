use Rattle.world_cases.proofs.Cases.{hsync-ends}
use Rattle.world_cases.proofs.hsync.Goals as goal

pub returns : goal.returns
returns c = hsync-ends
