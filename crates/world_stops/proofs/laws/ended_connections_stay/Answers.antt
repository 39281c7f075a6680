-- The law is proved of definitions alone.
use Rattle.world_stops.proofs.StopLemmas.{ended_stay}
use Rattle.world_stops.proofs.laws.ended_connections_stay.Goals as goal

pub returns : goal.returns
returns c = ended_stay c.losses_are_nets.ensures
