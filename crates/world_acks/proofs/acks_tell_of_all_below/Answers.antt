use Rattle.world_acks.proofs.AllAcked.{all-acked}
use Rattle.world_acks.proofs.acks_tell_of_all_below.Goals as goal

pub returns : goal.returns
returns c = all-acked
