-- The law is proved of definitions alone.
use Rattle.restart_scan.proofs.StopLemmas.{stopped_settlings_are_found}
use Rattle.restart_scan.proofs.laws.stopped_settlings_are_found.Goals as goal

pub returns : goal.returns
returns c = stopped_settlings_are_found
