use Rattle.play_laws.proofs.Resting.{all-rest}
use Rattle.play_laws.proofs.writers_rest.Goals as goal

pub returns : goal.returns
returns c = all-rest
