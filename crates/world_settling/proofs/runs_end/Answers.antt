-- At the start nothing is to be delivered and done.
use Rattle.world_settling.proofs.Runs.{runs-end}
use Rattle.world_settling.proofs.runs_end.Goals as goal

pub returns : goal.returns
returns c = runs-end
