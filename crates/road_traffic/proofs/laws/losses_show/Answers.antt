use Rattle.road_traffic.proofs.CallLemmas.{lost-shows}
use Rattle.road_traffic.proofs.laws.losses_show.Goals as goal

pub returns : goal.returns
returns g c = lost-shows g.R.Roads g.R.Inward.LinkIn g.R.Outward.LinkOut
