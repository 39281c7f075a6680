-- The law is proved of definitions, and of the files' own law on their log.
use Rattle.durable_replicas.proofs.SurvivalLemmas.{hsyncs_keep_fronts}
use Rattle.durable_replicas.proofs.laws.hsyncs_keep_fronts.Goals as goal

pub returns : goal.returns
returns g c = hsyncs_keep_fronts _ (λ drawer. g.met.F.Files.log_makes_files drawer)
