use Rattle.world_closings.proofs.Laws.{all-safe}
use Rattle.world_closings.proofs.worlds_are_safe.Goals as goal

pub returns : goal.returns
returns c = all-safe
