use Rattle.name_core.proofs.ChosenLemmas.{choice_keeps}
use Rattle.name_core.proofs.laws.chosen_length_is_held.Goals as goal

pub returns : goal.returns
returns c = choice_keeps
