-- So many members were gone through.
use Rattle.std.specs.Prelude.{map, is_some}
use Rattle.play_nodes.proofs.LedNodes.{LeadsSoFar}
use Rattle.play_nodes.proofs.nodes.Nodes.led.Given as goal

abbrev pub invariant-loop-place : goal.invariant-loop-place
invariant-loop-place g l = LeadsSoFar l.primary l.at l.members (map is_some l.lowers) l.fn.self l.self l.place
