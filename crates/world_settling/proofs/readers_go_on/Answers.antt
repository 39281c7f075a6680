-- By what happens.
use Rattle.world_settling.proofs.Readers.{readers-go-on}
use Rattle.world_settling.proofs.readers_go_on.Goals as goal

pub returns : goal.returns
returns c = readers-go-on
