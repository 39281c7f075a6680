-- The law is proved of definitions alone.
use Rattle.world_primaries.proofs.DrawnLemmas.{begin_makes}
use Rattle.world_primaries.proofs.laws.primaries_begin.Goals as goal

pub returns : goal.returns
returns c = begin_makes
