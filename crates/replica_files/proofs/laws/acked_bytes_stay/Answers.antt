use Rattle.replica_files.proofs.LawLemmas.{calls_keep_acked, histories_keep_acked, cuts_leave_fronts}
use Rattle.replica_files.proofs.laws.acked_bytes_stay.Goals as goal

pub returns-clause-calls : goal.returns-clause-calls
returns-clause-calls g c = calls_keep_acked _

pub returns-clause-histories : goal.returns-clause-histories
returns-clause-histories g c = histories_keep_acked

pub returns-clause-cut : goal.returns-clause-cut
returns-clause-cut g c = cuts_leave_fronts
