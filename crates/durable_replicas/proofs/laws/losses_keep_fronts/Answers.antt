-- The law is proved of definitions alone.
use Rattle.durable_replicas.proofs.LawLemmas.{losses_keep_fronts}
use Rattle.durable_replicas.proofs.laws.losses_keep_fronts.Goals as goal

pub returns : goal.returns
returns c = losses_keep_fronts
