use Rattle.world_recovery_ends.proofs.Beginning.{all-may-begin}
use Rattle.world_recovery_ends.proofs.told_primaries_begin.Goals as goal

pub returns : goal.returns
returns c nodes events i block told is node members answers runs formed = all-may-begin nodes events i block told is node members answers runs formed
