use Rattle.replica_core.proofs.TransitionLemmas.{update_less}
use Rattle.replica_core.proofs.laws.updates_never_lengthen.Goals as goal

pub returns : goal.returns
returns c = λ replica recovery bytes. (update_less replica recovery bytes).written
