use Rattle.world_laws.proofs.ByteLaws.{holds-fronts}
use Rattle.world_laws.proofs.replicas_hold_fronts.Goals as goal

pub returns : goal.returns
returns c = holds-fronts
