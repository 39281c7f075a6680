-- By where the writer is.
use Rattle.world_settling.proofs.WriterSteps.{steps-pay}
use Rattle.world_settling.proofs.steps_pay.Goals as goal

pub returns : goal.returns
returns c = steps-pay
