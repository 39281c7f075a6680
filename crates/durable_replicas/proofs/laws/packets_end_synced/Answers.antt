-- The law is proved of definitions, and of the files' own law on their log.
use Rattle.durable_replicas.proofs.SyncLemmas.{packets_end_synced}
use Rattle.durable_replicas.proofs.laws.packets_end_synced.Goals as goal

pub returns : goal.returns
returns g c = packets_end_synced _ (λ drawer. g.met.F.Files.log_makes_files drawer)
