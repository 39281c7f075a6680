use Rattle.world_nets.proofs.DialLemmas.{sane-stays}
use Rattle.world_nets.proofs.laws.nets_stay_sane.Goals as goal

pub returns : goal.returns
returns c = sane-stays
