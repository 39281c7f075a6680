-- The half that was lent is the mirror that the packet went to.
use Rattle.std.proofs.Common.{rules}
use Rattle.block_receiver.proofs.packets.take_packet.Goals as goal

pub returns-clause-sent : goal.returns-clause-sent
returns-clause-sent g c = rw c.in-Some.is (search rules)
