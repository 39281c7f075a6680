-- The law is proved of all reads.
use Rattle.read_core.proofs.WholeLemmas.{verified_is_whole}
use Rattle.read_core.proofs.laws.verified_reads_are_whole.Goals as goal

pub returns : goal.returns
returns c = verified_is_whole
