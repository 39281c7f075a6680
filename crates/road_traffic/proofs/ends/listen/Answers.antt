use Rattle.road_traffic.proofs.ShowingLemmas.{listen-shows}
use Rattle.road_traffic.proofs.ends.listen.Goals as goal

pub returns-clause-shows : goal.returns-clause-shows
returns-clause-shows g c =
    let k = c.listen.ensures in
    listen-shows g.R.Roads g.R.Inward.LinkIn g.R.Outward.LinkOut c.args.node.0 c.args.roads.now c.listen.new.self c.listen.result k.plain k.carried k.err
