use Rattle.road_traffic.proofs.ShowingLemmas.{roads-same}
use Rattle.road_traffic.proofs.laws.kept_show.Goals as goal

pub returns : goal.returns
returns g c road road' k net s = roads-same g.R.Roads g.R.Inward.LinkIn g.R.Outward.LinkOut net road road' s k.plain k.carried
