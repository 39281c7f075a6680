-- The nodes so far.
use Rattle.std.proofs.Common.{◌≡◌, take}
use Rattle.member_core.proofs.requests.listed.Given as goal

abbrev pub invariant-loop-node : goal.invariant-loop-node
invariant-loop-node l = l.list ≡ take l.node-index l.nodes
