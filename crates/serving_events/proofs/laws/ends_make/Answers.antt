-- By the lemma on worlds.
use Rattle.serving_events.proofs.DrawnLaws.{end_makes}
use Rattle.serving_events.proofs.laws.ends_make.Goals as goal

pub returns : goal.returns
returns c = end_makes
