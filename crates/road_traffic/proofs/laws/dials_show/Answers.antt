use Rattle.road_traffic.proofs.CallLemmas.{dialled-shows}
use Rattle.road_traffic.proofs.laws.dials_show.Goals as goal

pub returns : goal.returns
returns g c = dialled-shows g.R.Roads g.R.Inward.LinkIn g.R.Outward.LinkOut
