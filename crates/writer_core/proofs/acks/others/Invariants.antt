-- The nodes so far, but this one.
use Rattle.std.proofs.Common.{◌≡◌, ◌≤◌, take, length}
use Rattle.writer_core.specs.Phases.{without}
use Rattle.writer_core.proofs.acks.others.Given as goal

abbrev pub invariant-loop-node : goal.invariant-loop-node
invariant-loop-node l = (take l.count l.kept ≡ without (take l.node-index l.nodes) l.bad) × (l.count ≤ l.node-index) × (length l.kept ≡ 16)
