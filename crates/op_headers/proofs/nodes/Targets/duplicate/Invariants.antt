use Rattle.std.proofs.Common.{◌≡◌, ◌++◌}
use Rattle.std.specs.Slice.Iter.{iter_rest}
use Rattle.op_headers.proofs.nodes.Targets.duplicate.Given as goal

-- What is copied, and what is left, are the nodes.
abbrev pub invariant-loop-node : goal.invariant-loop-node
invariant-loop-node l = l.copy ++ iter_rest l.node-iterator ≡ l.fn.self
