-- Who asked goes on with the answer in the same draw.
use Rattle.world_settling.proofs.Telling.{draws-answer}
use Rattle.world_settling.proofs.draws_answer.Goals as goal

pub returns : goal.returns
returns c = draws-answer
