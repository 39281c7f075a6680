use Rattle.world_nets.proofs.ChangeLemmas.{taken_so}
use Rattle.world_nets.proofs.laws.taking_is_rows.Goals as goal

pub returns : goal.returns
returns c = taken_so
