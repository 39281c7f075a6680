-- By the lemma on worlds.
use Rattle.serving_events.proofs.DrawnLaws.{request_makes}
use Rattle.serving_events.proofs.laws.requests_make.Goals as goal

pub returns : goal.returns
returns c = request_makes
