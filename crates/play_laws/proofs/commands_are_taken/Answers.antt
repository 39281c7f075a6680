use Rattle.play_laws.proofs.Commanding.{commands-taken}
use Rattle.play_laws.proofs.commands_are_taken.Goals as goal

pub returns : goal.returns
returns c = commands-taken
