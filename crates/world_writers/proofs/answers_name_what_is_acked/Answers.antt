use Rattle.world_writers.proofs.AllMove.{all-reached}
use Rattle.world_writers.proofs.answers_name_what_is_acked.Goals as goal

pub returns : goal.returns
returns c = all-reached
