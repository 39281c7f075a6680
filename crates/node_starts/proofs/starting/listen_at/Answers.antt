-- The roads' connections are those with the node's port, or the same.
use Rattle.std.proofs.Common.{true, ◌+◌}
use Rattle.hd_base.specs.declared.roads.TheConstants.{FIRST_PORT}
use Rattle.road_traffic.proofs.ShowingLemmas.{roads-listened, roads-same}
use Rattle.node_starts.proofs.starting.listen_at.Goals as goal

pub returns-in-Ok-clause-shows : goal.returns-in-Ok-clause-shows
returns-in-Ok-clause-shows g c = λ net shows.
    roads-listened g.R.Roads g.R.Inward.LinkIn g.R.Outward.LinkOut net c.args.roads.now c.listen.new.self (FIRST_PORT + c.args.node.0) true shows c.in-Ok.ensures.plain c.in-Ok.ensures.carried

pub returns-in-Err-clause-shows : goal.returns-in-Err-clause-shows
returns-in-Err-clause-shows g c = λ net shows.
    roads-same g.R.Roads g.R.Inward.LinkIn g.R.Outward.LinkOut net c.args.roads.now c.listen.new.self shows c.in-Err.ensures.err c.in-Err.ensures.carried
