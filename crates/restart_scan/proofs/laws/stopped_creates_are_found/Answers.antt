-- The law is proved of definitions alone.
use Rattle.restart_scan.proofs.CreateLemmas.{stopped_creates_are_found}
use Rattle.restart_scan.proofs.laws.stopped_creates_are_found.Goals as goal

pub returns : goal.returns
returns c = stopped_creates_are_found
