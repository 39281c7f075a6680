use Rattle.play_laws.proofs.Untold.{stays-quiet}
use Rattle.play_laws.proofs.plays_stay_quiet.Goals as goal

pub returns : goal.returns
returns c = stays-quiet
