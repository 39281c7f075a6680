-- Strays are found, and none is left.
use Rattle.replica_calls.proofs.RemovalLemmas.{strays_are_removed}
use Rattle.replica_calls.proofs.laws.strays_are_removed.Goals as goal

pub returns : goal.returns
returns c = strays_are_removed
