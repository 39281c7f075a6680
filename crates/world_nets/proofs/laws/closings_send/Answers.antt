use Rattle.world_nets.proofs.FlushingLemmas.{closing-sends}
use Rattle.world_nets.proofs.laws.closings_send.Goals as goal

pub returns : goal.returns
returns c = closing-sends
