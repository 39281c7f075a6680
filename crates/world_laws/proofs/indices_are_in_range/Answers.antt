use Rattle.world_laws.proofs.PlacedLaws.{all-placed}
use Rattle.world_laws.proofs.indices_are_in_range.Goals as goal

pub returns : goal.returns
returns c = all-placed
