use Rattle.play_laws.proofs.Commanding.{creates-first}
use Rattle.play_laws.proofs.creates_come_first.Goals as goal

pub returns : goal.returns
returns c = creates-first
