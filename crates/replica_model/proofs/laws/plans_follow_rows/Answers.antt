-- The laws are proved of all replicas and events.
use Rattle.replica_model.proofs.RowLemmas.{plans_find_files, plans_follow_rows}
use Rattle.replica_model.proofs.laws.plans_follow_rows.Goals as goal

pub returns-clause-found : goal.returns-clause-found
returns-clause-found c = plans_find_files

pub returns-clause-followed : goal.returns-clause-followed
returns-clause-followed c = plans_follow_rows
