-- The law is proved of definitions alone.
use Rattle.durable_replicas.proofs.LawLemmas.{losses_keep_chunks}
use Rattle.durable_replicas.proofs.laws.losses_keep_chunks.Goals as goal

pub returns : goal.returns
returns c = losses_keep_chunks
