use Rattle.world_acks.proofs.AllAcked.{all-waiting}
use Rattle.world_acks.proofs.one_request_waits.Goals as goal

pub returns : goal.returns
returns c = all-waiting
