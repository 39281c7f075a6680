-- The law is proved of all writers.
use Rattle.writer_core.proofs.StampLemmas.{stamps_are_committed}
use Rattle.writer_core.proofs.laws.stamps_are_committed.Goals as goal

pub returns : goal.returns
returns c = stamps_are_committed
