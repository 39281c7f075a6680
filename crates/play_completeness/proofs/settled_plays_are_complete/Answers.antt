use Rattle.play_completeness.proofs.Whole.{settled-complete}
use Rattle.play_completeness.proofs.settled_plays_are_complete.Goals as goal

pub returns : goal.returns
returns c = settled-complete
