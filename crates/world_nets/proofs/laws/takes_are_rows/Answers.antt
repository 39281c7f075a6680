use Rattle.world_nets.proofs.RowLemmas.{taken}
use Rattle.world_nets.proofs.laws.takes_are_rows.Goals as goal

pub returns : goal.returns
returns c = taken
