use Rattle.world_readings.proofs.AllLimited.{all-limited}
use Rattle.world_readings.proofs.replicas_are_limited.Goals as goal

pub returns : goal.returns
returns c nodes events node block = ((all-limited nodes events).replicas node block).few
