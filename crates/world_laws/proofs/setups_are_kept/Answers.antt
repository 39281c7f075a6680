use Rattle.world_laws.proofs.AllSetUp.{all-set}
use Rattle.world_laws.proofs.setups_are_kept.Goals as goal

pub returns : goal.returns
returns c = all-set
