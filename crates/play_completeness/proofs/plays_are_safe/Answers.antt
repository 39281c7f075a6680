use Rattle.play_completeness.proofs.SafePlays.{plays-safe}
use Rattle.play_completeness.proofs.plays_are_safe.Goals as goal

pub returns : goal.returns
returns c = plays-safe c.worlds_are_safe.ensures
