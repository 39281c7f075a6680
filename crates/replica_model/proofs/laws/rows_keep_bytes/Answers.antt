-- The law is proved of all replicas and events.
use Rattle.replica_model.proofs.RowLemmas.{rows_keep_bytes}
use Rattle.replica_model.proofs.laws.rows_keep_bytes.Goals as goal

pub returns : goal.returns
returns c = rows_keep_bytes
