use Rattle.road_traffic.proofs.CallLemmas.{quiet-shows}
use Rattle.road_traffic.proofs.laws.quiet_show.Goals as goal

pub returns : goal.returns
returns g c = quiet-shows g.I.LinkIn g.O.LinkOut
