use Rattle.world_laws.proofs.FilledLaws.{all-filled}
use Rattle.world_laws.proofs.replicas_have_their_bytes.Goals as goal

pub returns : goal.returns
returns c = all-filled
