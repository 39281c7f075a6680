use Rattle.world_writers.proofs.AllPiped.{all-piped}
use Rattle.world_writers.proofs.writers_know_their_pipeline.Goals as goal

pub returns : goal.returns
returns c = all-piped
