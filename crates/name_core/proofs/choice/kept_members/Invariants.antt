-- The nodes so far are those of the candidates that are kept among the infos so far.
use Rattle.std.proofs.Common.{take}
use Rattle.name_core.proofs.ChoiceLemmas.{KeptSoFar}
use Rattle.name_core.proofs.choice.kept_members.Given as goal

abbrev pub invariant-loop-info : goal.invariant-loop-info
invariant-loop-info l = KeptSoFar l.block_stamp l.kept (take l.info-index l.infos) l.info-index l.nodes l.count
