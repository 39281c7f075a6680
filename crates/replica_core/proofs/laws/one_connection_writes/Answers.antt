use Rattle.replica_core.proofs.TransitionLemmas.{others, written_rises, pending_rises}
use Rattle.replica_core.proofs.laws.one_connection_writes.Goals as goal

pub returns-clause-others : goal.returns-clause-others
returns-clause-others c = others

pub returns-clause-written : goal.returns-clause-written
returns-clause-written c = written_rises

pub returns-clause-pending : goal.returns-clause-pending
returns-clause-pending c = pending_rises
