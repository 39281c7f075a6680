-- The law is proved of definitions alone.
use Rattle.world_primaries.proofs.LinkLemmas.{all_are_distinct}
use Rattle.world_primaries.proofs.laws.primaries_have_distinct_connections.Goals as goal

pub returns : goal.returns
returns c = all_are_distinct c.messages_come_in_order.ensures
