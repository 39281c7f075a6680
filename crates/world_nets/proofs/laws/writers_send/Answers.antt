use Rattle.world_nets.proofs.FlushingLemmas.{writer-sends}
use Rattle.world_nets.proofs.laws.writers_send.Goals as goal

pub returns : goal.returns
returns c = writer-sends
