-- Roads whose connection was cut.
use Rattle.world_cuts.proofs.CutLemmas.{all_cut}
use Rattle.world_cuts.proofs.laws.cuts_show.Goals as goal

pub returns : goal.returns
returns g c = all_cut _ _ _ g.R.Roads
