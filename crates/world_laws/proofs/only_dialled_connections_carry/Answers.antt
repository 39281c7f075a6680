use Rattle.world_laws.proofs.PlacedLaws.{only-dialled-carry}
use Rattle.world_laws.proofs.only_dialled_connections_carry.Goals as goal

pub returns : goal.returns
returns c = only-dialled-carry
