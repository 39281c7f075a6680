use Rattle.road_traffic.proofs.ShowingLemmas.{exchange-shows}
use Rattle.road_traffic.proofs.laws.exchanges_show.Goals as goal

pub returns : goal.returns
returns g c takes old new road road' result k =
    exchange-shows g.R.Roads g.R.Inward.LinkIn g.R.Outward.LinkOut takes old new road road' result
    k.flushed k.carried k.plain k.taken k.untaken k.kept k.err_plain k.err_carried k.err_held k.err_flushed
