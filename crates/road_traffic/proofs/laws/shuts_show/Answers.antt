use Rattle.road_traffic.proofs.CallLemmas.{shut-shows}
use Rattle.road_traffic.proofs.laws.shuts_show.Goals as goal

pub returns : goal.returns
returns g c = shut-shows g.I.LinkIn g.O.LinkOut
