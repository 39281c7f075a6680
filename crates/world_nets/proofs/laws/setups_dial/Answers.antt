use Rattle.world_nets.proofs.MirrorLemmas.{setup-dials}
use Rattle.world_nets.proofs.laws.setups_dial.Goals as goal

pub returns : goal.returns
returns c = setup-dials
