-- The law is proved of all reads.
use Rattle.read_core.proofs.ReadLemmas.{stays_visible}
use Rattle.read_core.proofs.laws.reads_stay_visible.Goals as goal

pub returns : goal.returns
returns c = stays_visible
