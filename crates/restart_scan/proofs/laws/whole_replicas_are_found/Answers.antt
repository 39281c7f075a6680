-- The law is proved of definitions alone.
use Rattle.restart_scan.proofs.WholeLemmas.{whole_replicas_are_found}
use Rattle.restart_scan.proofs.laws.whole_replicas_are_found.Goals as goal

pub returns : goal.returns
returns c = whole_replicas_are_found
