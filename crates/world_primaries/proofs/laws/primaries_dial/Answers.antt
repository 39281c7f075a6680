-- The law is proved of definitions alone.
use Rattle.world_primaries.proofs.DialLemmas.{begins_dial}
use Rattle.world_primaries.proofs.laws.primaries_dial.Goals as goal

pub returns : goal.returns
returns c = begins_dial
