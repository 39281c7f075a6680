use Rattle.world_writers.proofs.AllShow.{all-show}
use Rattle.world_writers.proofs.acked_bytes_are_shown.Goals as goal

pub returns : goal.returns
returns c = all-show
