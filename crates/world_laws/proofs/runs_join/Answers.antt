use Rattle.world_laws.proofs.RunLaws.{runs-join, runs-end}
use Rattle.world_laws.proofs.runs_join.Goals as goal

pub returns-clause-joined : goal.returns-clause-joined
returns-clause-joined c = runs-join

pub returns-clause-ended : goal.returns-clause-ended
returns-clause-ended c = runs-end
