use Rattle.world_laws.proofs.GrowthLaws.{run-grows}
use Rattle.world_laws.proofs.the_past_only_grows.Goals as goal

pub returns : goal.returns
returns c = run-grows
