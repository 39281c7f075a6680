use Rattle.play_laws.proofs.Running.{all-run}
use Rattle.play_laws.proofs.nodes_run.Goals as goal

pub returns : goal.returns
returns c = all-run
