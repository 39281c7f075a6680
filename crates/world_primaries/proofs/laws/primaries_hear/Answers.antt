-- The law is proved of definitions alone.
use Rattle.world_primaries.proofs.DrawnLemmas.{hear_makes}
use Rattle.world_primaries.proofs.laws.primaries_hear.Goals as goal

pub returns : goal.returns
returns c = hear_makes
