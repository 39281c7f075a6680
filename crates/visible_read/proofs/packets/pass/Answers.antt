-- The packet is booked once there is memory for it; it is the last one exactly where it has no bytes.
use Rattle.std.proofs.Common.{Err}
use Rattle.pipe_turns.specs.ReplicaFiles.BookFault.TheVariants as fault
use Rattle.pipe_turns.proofs.StillLemmas.{still, unmade}
use Rattle.visible_read.proofs.PacketLemmas.{is-last}
use Rattle.visible_read.proofs.packets.pass.Goals as goal

pub returns-in_default-clause-sends : goal.returns-in_default-clause-sends
returns-in_default-clause-sends g c =
    record { booked = Err fault.Memory; ends = unmade g.F.Files c.args.book.now; sends = (c.wanting.ensures, still g.O.LinkOut c.args.out.now) }

pub returns-then-is_err-clause-sends : goal.returns-then-is_err-clause-sends
returns-then-is_err-clause-sends g c =
    record { booked = Err fault.Memory; ends = unmade g.F.Files c.args.book.now; sends = (c.wanting-then-is_err.ensures, c.make_room.ensures.quiet) }

pub passed-requires-clause-ends : goal.passed-requires-clause-ends
passed-requires-clause-ends g c = rw c.in-Ok.ensures.packet (is-last c.args.core.now c.args.body.items)
