-- By what was asked, and what the office answered.
use Rattle.world_settling.proofs.OfficeEvents.{asking-lowers}
use Rattle.world_settling.proofs.asking_lowers.Goals as goal

pub returns : goal.returns
returns c = asking-lowers
