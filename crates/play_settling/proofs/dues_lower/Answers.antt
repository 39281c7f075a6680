use Rattle.play_settling.proofs.Lowering.{dues-lower}
use Rattle.play_settling.proofs.dues_lower.Goals as goal

pub returns : goal.returns
returns c = dues-lower
