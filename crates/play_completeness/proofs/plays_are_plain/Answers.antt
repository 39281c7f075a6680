use Rattle.play_completeness.proofs.Plays.{plays-plain}
use Rattle.play_completeness.proofs.plays_are_plain.Goals as goal

pub returns : goal.returns
returns c = plays-plain
