-- A packet that came is spelled by the bytes that came with it.
use Rattle.pipe_member.proofs.above.Above.receive.Goals as goal

pub invariant_of-self : goal.invariant_of-self
invariant_of-self g c = rw c.above_of.ensures c.next_packet-came.ensures.spelled
