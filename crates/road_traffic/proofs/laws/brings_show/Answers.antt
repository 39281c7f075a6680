use Rattle.road_traffic.proofs.CallLemmas.{brought-shows}
use Rattle.road_traffic.proofs.laws.brings_show.Goals as goal

pub returns : goal.returns
returns g c = brought-shows g.R.Roads g.R.Inward.LinkIn g.R.Outward.LinkOut
