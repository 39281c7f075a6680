-- The events of the nodes keep what is elsewhere.
use Rattle.play_nodes.proofs.ElsewhereKeeping.{down_leaves, fault_leaves, ready_leaves, mirror_leaves}
use Rattle.play_nodes.proofs.frames.nodes_keep_elsewhere.Goals as goal

pub returns-clause-down : goal.returns-clause-down
returns-clause-down c = down_leaves

pub returns-clause-fault : goal.returns-clause-fault
returns-clause-fault c = fault_leaves

pub returns-clause-ready : goal.returns-clause-ready
returns-clause-ready c = ready_leaves

pub returns-clause-up : goal.returns-clause-up
returns-clause-up c = mirror_leaves
