-- The nodes so far.
use Rattle.std.proofs.Common.{◌≡◌, map, take}
use Rattle.node_refs.specs.NodeRefs.{ref_of}
use Rattle.writer_core.proofs.requests.target_refs.Given as goal

abbrev pub invariant-loop-node : goal.invariant-loop-node
invariant-loop-node l = l.targets ≡ map ref_of (take l.node-index l.nodes)
