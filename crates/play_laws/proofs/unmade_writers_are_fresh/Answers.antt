use Rattle.play_laws.proofs.Commanding.{unmade-fresh}
use Rattle.play_laws.proofs.unmade_writers_are_fresh.Goals as goal

pub returns : goal.returns
returns c = unmade-fresh
