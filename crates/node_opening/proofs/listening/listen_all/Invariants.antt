-- The nodes so far listen.
use Rattle.std.proofs.Common.{◌≡◌, ◌≤◌}
use Rattle.node_opening.specs.Listening.{ListenAll}
use Rattle.node_opening.proofs.listening.listen_all.Given as goal

abbrev pub invariant-loop-node : goal.invariant-loop-node
invariant-loop-node g l = record {
  shows : ListenAll g.R.Roads l.node l.fn.roads l.roads;
  later : g.R.Roads.faults l.fn.roads ≤ g.R.Roads.faults l.roads;
  risen : g.R.Roads.risen l.roads ≡ g.R.Roads.risen l.fn.roads;
}
