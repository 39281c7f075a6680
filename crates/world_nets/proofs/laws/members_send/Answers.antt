use Rattle.world_nets.proofs.FlushingLemmas.{member-sends}
use Rattle.world_nets.proofs.laws.members_send.Goals as goal

pub returns : goal.returns
returns c = member-sends
