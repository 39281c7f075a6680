use Rattle.world_laws.proofs.RunLaws.{idle-stays}
use Rattle.world_laws.proofs.idle_events_change_nothing.Goals as goal

pub returns : goal.returns
returns c = idle-stays
