-- Ends stay.
use Rattle.world_cuts.proofs.CutLemmas.{ends_cut}
use Rattle.world_cuts.proofs.laws.ends_stay_in_cuts.Goals as goal

pub returns : goal.returns
returns g c = ends_cut g.I.LinkIn g.O.LinkOut
