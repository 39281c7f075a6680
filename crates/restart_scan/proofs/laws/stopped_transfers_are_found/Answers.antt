-- The law is proved of definitions alone.
use Rattle.restart_scan.proofs.StopLemmas.{stopped_transfers_are_found}
use Rattle.restart_scan.proofs.laws.stopped_transfers_are_found.Goals as goal

pub returns : goal.returns
returns c = stopped_transfers_are_found
