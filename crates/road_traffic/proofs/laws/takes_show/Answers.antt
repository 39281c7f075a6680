use Rattle.road_traffic.proofs.CallLemmas.{took-shows}
use Rattle.road_traffic.proofs.laws.takes_show.Goals as goal

pub returns : goal.returns
returns g c = took-shows g.I.LinkIn g.O.LinkOut
