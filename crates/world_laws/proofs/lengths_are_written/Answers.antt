use Rattle.world_laws.proofs.ByteLaws.{lengths-are-written}
use Rattle.world_laws.proofs.lengths_are_written.Goals as goal

pub returns : goal.returns
returns c = lengths-are-written
