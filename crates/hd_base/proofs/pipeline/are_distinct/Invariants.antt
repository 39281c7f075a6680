-- None of the nodes looked at so far stands twice.
use Rattle.std.proofs.Common.{take}
use Rattle.hd_base.specs.Lists.{AllDistinct}
use Rattle.hd_base.proofs.pipeline.are_distinct.Given as goal

abbrev pub invariant-loop-i : goal.invariant-loop-i
invariant-loop-i l = AllDistinct (take l.i l.nodes)
