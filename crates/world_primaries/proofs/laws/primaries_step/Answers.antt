-- The law is proved of definitions alone.
use Rattle.world_primaries.proofs.DrawnLemmas.{step_makes}
use Rattle.world_primaries.proofs.laws.primaries_step.Goals as goal

pub returns : goal.returns
returns c = step_makes
