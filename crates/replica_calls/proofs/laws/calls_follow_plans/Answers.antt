-- The calls are those of the plans.
use Rattle.replica_calls.proofs.ListLemmas.{settling_follows_plans}
use Rattle.replica_calls.proofs.laws.calls_follow_plans.Goals as goal

pub returns-clause-settling : goal.returns-clause-settling
returns-clause-settling c = settling_follows_plans
