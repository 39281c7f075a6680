use Rattle.world_writers.proofs.AllShow.{all-sit}
use Rattle.world_writers.proofs.answered_members_show.Goals as goal

pub returns : goal.returns
returns c = all-sit
