-- The law is proved of definitions alone.
use Rattle.world_primaries.proofs.LinkLemmas.{primary_sends}
use Rattle.world_primaries.proofs.laws.primaries_send.Goals as goal

pub returns : goal.returns
returns c = primary_sends
