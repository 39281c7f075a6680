-- The last bad one of the replies so far.
use Rattle.std.proofs.Common.{◌≡◌, take}
use Rattle.writer_core.specs.Phases.{last_bad}
use Rattle.writer_core.proofs.acks.last_bad.Given as goal

abbrev pub invariant-loop-i : goal.invariant-loop-i
invariant-loop-i l = l.last ≡ last_bad (take l.i l.replies)
