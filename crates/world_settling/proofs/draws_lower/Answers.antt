-- By what is drawn.
use Rattle.world_settling.proofs.Drawing.{draws-lower}
use Rattle.world_settling.proofs.draws_lower.Goals as goal

pub returns : goal.returns
returns c = draws-lower
