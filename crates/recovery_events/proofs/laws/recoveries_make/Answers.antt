use Rattle.recovery_events.proofs.DrawnLemmas.{recovery_makes}
use Rattle.recovery_events.proofs.laws.recoveries_make.Goals as goal

pub returns : goal.returns
returns c = recovery_makes
