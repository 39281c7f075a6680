-- By whether the dial is answered.
use Rattle.world_settling.proofs.ReaderOwn.{readers-lower}
use Rattle.world_settling.proofs.readers_lower.Goals as goal

pub returns : goal.returns
returns c = readers-lower
