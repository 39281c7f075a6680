-- None of the nodes looked at so far stands twice.
use Rattle.std.proofs.Common.{take}
use Rattle.name_core.specs.Infos.{NodesDiffer}
use Rattle.name_core.proofs.infos.are_of_different_nodes.Given as goal

abbrev pub invariant-loop-i : goal.invariant-loop-i
invariant-loop-i l = NodesDiffer (take l.i l.infos)
