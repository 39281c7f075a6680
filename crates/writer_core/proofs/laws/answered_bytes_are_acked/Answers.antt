-- The law is proved of all writers.
use Rattle.writer_core.proofs.ReachedLemmas.{answered_is_acked}
use Rattle.writer_core.proofs.laws.answered_bytes_are_acked.Goals as goal

pub returns : goal.returns
returns c = answered_is_acked
