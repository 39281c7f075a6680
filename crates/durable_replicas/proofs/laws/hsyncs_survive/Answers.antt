-- The law is proved of definitions, and of the files' own law on their log.
use Rattle.durable_replicas.proofs.SurvivalLemmas.{hsyncs_survive}
use Rattle.durable_replicas.proofs.laws.hsyncs_survive.Goals as goal

pub returns : goal.returns
returns g c = hsyncs_survive _ (λ drawer. g.met.F.Files.log_makes_files drawer)
