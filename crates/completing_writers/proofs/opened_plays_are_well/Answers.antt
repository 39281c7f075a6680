use Rattle.completing_writers.proofs.Delivering.{opened-well, commands-join-well}
use Rattle.completing_writers.proofs.opened_plays_are_well.Goals as goal

pub returns : goal.returns
returns c = record { opened = opened-well; joined = commands-join-well }
