use Rattle.play_completeness.proofs.OwnMoves.{quiet-formed}
use Rattle.play_completeness.proofs.writers_have_formed_their_packets.Goals as goal

pub returns : goal.returns
returns c = quiet-formed
