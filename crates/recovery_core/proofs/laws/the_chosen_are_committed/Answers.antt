-- The law is proved of all primaries.
use Rattle.recovery_core.proofs.ChosenLemmas.{commits_the_chosen}
use Rattle.recovery_core.proofs.laws.the_chosen_are_committed.Goals as goal

pub returns : goal.returns
returns c = commits_the_chosen
