use Rattle.world_laws.proofs.ByteLaws.{packets-are-pieces}
use Rattle.world_laws.proofs.packets_are_pieces.Goals as goal

pub returns : goal.returns
returns c = packets-are-pieces
