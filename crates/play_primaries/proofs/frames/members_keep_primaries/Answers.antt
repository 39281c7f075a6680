-- The laws.
use Rattle.play_primaries.proofs.OtherSteps.{down_keeps, fault_keeps, ready_keeps, mirror_keeps}
use Rattle.play_primaries.proofs.frames.members_keep_primaries.Goals as goal

pub returns-clause-downs : goal.returns-clause-downs
returns-clause-downs c = down_keeps

pub returns-clause-faults : goal.returns-clause-faults
returns-clause-faults c = fault_keeps

pub returns-clause-readies : goal.returns-clause-readies
returns-clause-readies c = ready_keeps

pub returns-clause-mirrors : goal.returns-clause-mirrors
returns-clause-mirrors c = mirror_keeps
