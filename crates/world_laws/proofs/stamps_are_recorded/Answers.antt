use Rattle.world_laws.proofs.AllRecorded.{all-recorded}
use Rattle.world_laws.proofs.stamps_are_recorded.Goals as goal

pub returns : goal.returns
returns c = all-recorded
