use Rattle.world_readings.proofs.Going.{all-go-on}
use Rattle.world_readings.proofs.readers_go_on.Goals as goal

pub returns : goal.returns
returns c nodes events i d s is = all-go-on nodes events i d s is
