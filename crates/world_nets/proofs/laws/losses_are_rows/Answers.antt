use Rattle.world_nets.proofs.RowLemmas.{lost}
use Rattle.world_nets.proofs.laws.losses_are_rows.Goals as goal

pub returns : goal.returns
returns c = lost
