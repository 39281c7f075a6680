-- The nodes so far have rows.
use Rattle.std.proofs.Common.{◌≤◌, length}
use Rattle.play_report.proofs.RowLemmas.{NodesSoFar}
use Rattle.play_report.proofs.rows.all_rows.Given as goal

abbrev pub invariant-loop-node : goal.invariant-loop-node
invariant-loop-node g l = record {
  within : l.node ≤ length l.initial.nodes;
  read : NodesSoFar g.F.Files l.running l.node l.initial.nodes l.nodes l.all.items;
}
