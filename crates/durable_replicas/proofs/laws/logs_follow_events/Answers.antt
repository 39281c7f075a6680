-- The law is proved of definitions alone.
use Rattle.durable_replicas.proofs.BookLemmas.{logs_follow_events}
use Rattle.durable_replicas.proofs.laws.logs_follow_events.Goals as goal

pub returns : goal.returns
returns g c = logs_follow_events _
