use Rattle.world_laws.proofs.FoundLaws.{may-find-exact, restarts-find}
use Rattle.world_laws.proofs.restarts_find_what_they_may.Goals as goal

pub returns-clause-tested : goal.returns-clause-tested
returns-clause-tested c = may-find-exact

pub returns-clause-found : goal.returns-clause-found
returns-clause-found c = restarts-find
