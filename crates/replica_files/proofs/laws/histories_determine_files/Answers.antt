use Rattle.replica_files.proofs.LawLemmas.{histories_determine_files}
use Rattle.replica_files.proofs.laws.histories_determine_files.Goals as goal

pub returns : goal.returns
returns g c = histories_determine_files _ _
