-- What is listed is due.
use Rattle.play_model.proofs.ListedLemmas.{listed_due}
use Rattle.play_model.proofs.laws.listed_dues_are_due.Goals as goal

pub returns : goal.returns
returns c = listed_due
