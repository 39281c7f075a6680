-- By what was taken.
use Rattle.world_settling.proofs.WriterHears.{answers-lower}
use Rattle.world_settling.proofs.answers_lower.Goals as goal

pub returns : goal.returns
returns c = answers-lower
