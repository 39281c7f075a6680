use Rattle.world_closings.proofs.Laws.{all-close}
use Rattle.world_closings.proofs.members_have_closed.Goals as goal

pub returns : goal.returns
returns c = all-close
