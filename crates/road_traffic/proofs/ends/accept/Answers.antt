use Rattle.road_traffic.proofs.ShowingLemmas.{accept-shows}
use Rattle.road_traffic.proofs.ends.accept.Goals as goal

pub returns-clause-shows : goal.returns-clause-shows
returns-clause-shows g c =
    let k = c.accept.ensures in
    accept-shows g.R.Roads g.R.Inward.LinkIn g.R.Outward.LinkOut c.args.port c.args.roads.now c.accept.new.self c.accept.result
    k.none k.lower k.number k.fresh k.observable k.plain k.carried k.err
