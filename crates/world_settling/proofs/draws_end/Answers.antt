-- One turn after the other.
use Rattle.world_settling.proofs.Runs.{draws-end}
use Rattle.world_settling.proofs.draws_end.Goals as goal

pub returns : goal.returns
returns c = draws-end
