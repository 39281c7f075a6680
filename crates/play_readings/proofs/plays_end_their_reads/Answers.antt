use Rattle.play_readings.proofs.Settled.{plays-end}
use Rattle.play_readings.proofs.plays_end_their_reads.Goals as goal

pub returns : goal.returns
returns c script end i h n = plays-end script end i h n
