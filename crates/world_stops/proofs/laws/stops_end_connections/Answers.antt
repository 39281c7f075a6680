-- The law is proved of definitions alone.
use Rattle.world_stops.proofs.StopLemmas.{stops_end}
use Rattle.world_stops.proofs.laws.stops_end_connections.Goals as goal

pub returns : goal.returns
returns c = stops_end
