use Rattle.road_traffic.proofs.CallLemmas.{sent-shows}
use Rattle.road_traffic.proofs.laws.sends_show.Goals as goal

pub returns : goal.returns
returns g c = sent-shows g.I.LinkIn g.O.LinkOut
