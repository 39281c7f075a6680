use Rattle.world_nets.proofs.FlushingLemmas.{setup-sends}
use Rattle.world_nets.proofs.laws.setups_send.Goals as goal

pub returns : goal.returns
returns c = setup-sends
