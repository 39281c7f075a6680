use Rattle.play_completeness.proofs.OwnFacts.{own-keeps}
use Rattle.play_completeness.proofs.writers_keep_names.Goals as goal

pub returns : goal.returns
returns c = own-keeps
