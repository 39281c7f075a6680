-- The law is proved of definitions alone.
use Rattle.world_primaries.proofs.DialLemmas.{all_dials_are_nets}
use Rattle.world_primaries.proofs.laws.all_dials_are_nets.Goals as goal

pub returns : goal.returns
returns c = all_dials_are_nets
