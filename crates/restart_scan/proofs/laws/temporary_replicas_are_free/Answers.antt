-- The law is proved of definitions alone.
use Rattle.restart_scan.proofs.EventLemmas.{replayed_unrecovered}
use Rattle.restart_scan.proofs.laws.temporary_replicas_are_free.Goals as goal

pub returns : goal.returns
returns c = replayed_unrecovered
