use Rattle.world_laws.proofs.TestLaws.{all-tested}
use Rattle.world_laws.proofs.enabled_events_are_tested.Goals as goal

pub returns : goal.returns
returns c = all-tested
