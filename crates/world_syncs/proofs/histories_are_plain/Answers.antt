use Rattle.world_syncs.proofs.Plain.{all-plain}
use Rattle.world_syncs.proofs.histories_are_plain.Goals as goal

pub returns : goal.returns
returns c = all-plain
