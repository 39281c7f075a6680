use Rattle.name_core.proofs.LeaseLemmas.{lease_stays_lost}
use Rattle.name_core.proofs.laws.lease_stays_lost.Goals as goal

pub returns : goal.returns
returns c = lease_stays_lost
