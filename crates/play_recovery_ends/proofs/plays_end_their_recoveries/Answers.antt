use Rattle.play_recovery_ends.proofs.Settled.{plays-end}
use Rattle.play_recovery_ends.proofs.plays_end_their_recoveries.Goals as goal

pub returns : goal.returns
returns c shelves script end i fits plays n = plays-end shelves script end fits plays i n
