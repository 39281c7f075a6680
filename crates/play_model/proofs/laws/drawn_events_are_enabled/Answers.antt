-- What is listed to be drawn can happen.
use Rattle.play_model.proofs.ListedLemmas.{listed_enabled}
use Rattle.play_model.proofs.laws.drawn_events_are_enabled.Goals as goal

pub returns : goal.returns
returns c = listed_enabled
