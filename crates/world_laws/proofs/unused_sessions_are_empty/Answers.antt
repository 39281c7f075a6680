use Rattle.world_laws.proofs.Unused.{unused-are-empty}
use Rattle.world_laws.proofs.unused_sessions_are_empty.Goals as goal

pub returns : goal.returns
returns c = unused-are-empty
