-- The law is proved of definitions alone.
use Rattle.world_stops.proofs.StopLemmas.{stops_are_cuts}
use Rattle.world_stops.proofs.laws.stops_are_cuts.Goals as goal

pub returns : goal.returns
returns g c = stops_are_cuts g.I.LinkIn g.O.LinkOut c.cuts_are_losses.ensures
