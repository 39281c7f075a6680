use Rattle.play_laws.proofs.Running.{only-nodes-run}
use Rattle.play_laws.proofs.only_nodes_run.Goals as goal

pub returns : goal.returns
returns c = only-nodes-run
