use Rattle.play_laws.proofs.Aiming.{targets-are}
use Rattle.play_laws.proofs.targets_are_nodes.Goals as goal

pub returns : goal.returns
returns c = targets-are
