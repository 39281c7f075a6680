use Rattle.world_readings.proofs.AllHeld.{all-held}
use Rattle.world_readings.proofs.packets_were_held.Goals as goal

pub returns : goal.returns
returns c nodes events i d k read p a e = all-held nodes events i d k read p a e
