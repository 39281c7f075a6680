-- The lines of the nodes so far are appended.
use Rattle.std.proofs.Common.{◌≡◌, ◌++◌}
use Rattle.play_report.specs.Replicas.{all_lines}
use Rattle.play_report.proofs.replicas.push_nodes.Given as goal

abbrev pub invariant-loop-node : goal.invariant-loop-node
invariant-loop-node l = l.out.items ≡ l.fn.out.items ++ all_lines l.running l.blocks l.all l.node
