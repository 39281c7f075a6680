use Rattle.replica_core.proofs.TransitionLemmas.{no_gap}
use Rattle.replica_core.proofs.laws.packets_leave_no_gap.Goals as goal

pub returns : goal.returns
returns c = no_gap
