use Rattle.play_completeness.proofs.Peace.{all-peaceful}
use Rattle.play_completeness.proofs.plain_events_keep_peace.Goals as goal

pub returns : goal.returns
returns c = all-peaceful
