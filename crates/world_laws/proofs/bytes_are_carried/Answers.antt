use Rattle.world_laws.proofs.AllCarried.{all-carried}
use Rattle.world_laws.proofs.bytes_are_carried.Goals as goal

pub returns : goal.returns
returns c = all-carried
