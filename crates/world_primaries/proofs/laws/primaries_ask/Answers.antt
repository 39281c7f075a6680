-- The law is proved of definitions alone.
use Rattle.world_primaries.proofs.DrawnLemmas.{ask_makes}
use Rattle.world_primaries.proofs.laws.primaries_ask.Goals as goal

pub returns : goal.returns
returns c = ask_makes
