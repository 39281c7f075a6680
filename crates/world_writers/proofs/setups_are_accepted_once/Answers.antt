use Rattle.world_writers.proofs.AllJoin.{all-join}
use Rattle.world_writers.proofs.setups_are_accepted_once.Goals as goal

pub returns : goal.returns
returns c = all-join
