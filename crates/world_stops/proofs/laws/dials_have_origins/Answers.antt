-- The law is proved of definitions alone.
use Rattle.world_stops.proofs.OriginLemmas.{all_from}
use Rattle.world_stops.proofs.laws.dials_have_origins.Goals as goal

pub returns : goal.returns
returns c = all_from c.indices_are_in_range.ensures c.the_past_only_grows.ensures
