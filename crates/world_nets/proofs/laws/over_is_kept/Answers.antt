use Rattle.world_nets.proofs.StepLemmas.{over-kept}
use Rattle.world_nets.proofs.laws.over_is_kept.Goals as goal

pub returns : goal.returns
returns c = over-kept
