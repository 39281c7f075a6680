use Rattle.world_writers.proofs.AllMove.{all-move}
use Rattle.world_writers.proofs.writers_make_moves.Goals as goal

pub returns : goal.returns
returns c = all-move
