-- There is a mirror, to which the packet went.
use Rattle.std.proofs.Common.{rules}
use Rattle.pipe_turns.proofs.turning.book_packet.Goals as goal

pub returns-clause-passes : goal.returns-clause-passes
returns-clause-passes g c = rw c.in-Some.is (search rules)
