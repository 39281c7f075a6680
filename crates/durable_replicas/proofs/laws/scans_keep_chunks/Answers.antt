-- The law is proved of definitions alone.
use Rattle.durable_replicas.proofs.ShelfLemmas.{scans_keep_chunks}
use Rattle.durable_replicas.proofs.laws.scans_keep_chunks.Goals as goal

pub returns : goal.returns
returns c = scans_keep_chunks
