-- What was read before memory ran out was taken with what was read last.
use Rattle.std.proofs.Common.{arith}
use Rattle.std.proofs.lemmas.Grind.{common_steps}
use Rattle.whole_streams.proofs.StreamLaws.{took_more}
use Rattle.whole_streams.proofs.streams.read_to_end.Goals as goal

pub returns-then-is_err-clause-taken : goal.returns-then-is_err-clause-taken
returns-then-is_err-clause-taken g c =
    took_more _ _ _ c.reads.bytes.items c.read.new.into c.in-Ok.count _ c.reads.invariant.taken c.in-Ok.ensures.taken (grind (arith, common_steps))
