-- The events of the nodes keep the office, the writers, and what they have answered.
use Rattle.play_nodes.proofs.WriterKeeping.{down_keeps, fault_keeps, ready_keeps, mirror_keeps}
use Rattle.play_nodes.proofs.frames.nodes_keep_writers.Goals as goal

pub returns-clause-down : goal.returns-clause-down
returns-clause-down c = down_keeps

pub returns-clause-fault : goal.returns-clause-fault
returns-clause-fault c = fault_keeps

pub returns-clause-ready : goal.returns-clause-ready
returns-clause-ready c = ready_keeps

pub returns-clause-up : goal.returns-clause-up
returns-clause-up c = mirror_keeps
