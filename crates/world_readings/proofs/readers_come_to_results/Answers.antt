use Rattle.world_readings.proofs.AllReads.{all-come-to, all-end}
use Rattle.world_readings.proofs.readers_come_to_results.Goals as goal

pub returns : goal.returns
returns c = record { come = λ nodes events i. all-come-to nodes events i; ended = λ nodes events i. all-end nodes events i }
