use Rattle.play_settling.proofs.Befalling.{plays-lower}
use Rattle.play_settling.proofs.plays_lower.Goals as goal

pub returns : goal.returns
returns c = plays-lower
