use Rattle.road_traffic.proofs.ShowingLemmas.{standing-shows}
use Rattle.road_traffic.proofs.ends.standing.Goals as goal

pub returns-clause-shows : goal.returns-clause-shows
returns-clause-shows g c =
    let k = c.standing.ensures in
    standing-shows g.R.Roads g.R.Inward.LinkIn g.R.Outward.LinkOut c.args.conn.0 c.args.down c.args.roads.now c.standing.new.self c.standing.result k.next k.plain k.carried
