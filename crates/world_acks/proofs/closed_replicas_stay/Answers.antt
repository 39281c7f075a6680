use Rattle.world_acks.proofs.ClosedLaws.{closed-stays}
use Rattle.world_acks.proofs.closed_replicas_stay.Goals as goal

pub returns : goal.returns
returns c = closed-stays
