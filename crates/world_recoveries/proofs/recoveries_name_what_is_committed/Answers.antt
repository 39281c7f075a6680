use Rattle.world_recoveries.proofs.AllNaming.{all-naming}
use Rattle.world_recoveries.proofs.recoveries_name_what_is_committed.Goals as goal

pub returns : goal.returns
returns c = all-naming
