-- The law is proved of all members.
use Rattle.recovery_core.proofs.PrimaryLemmas.{only_chosen}
use Rattle.recovery_core.proofs.laws.only_chosen_are_updated.Goals as goal

pub returns : goal.returns
returns c = only_chosen
