use Rattle.play_completeness.proofs.ReadyTurns.{ready-keeps}
use Rattle.play_completeness.proofs.acks_at_the_end_keep_links.Goals as goal

pub returns : goal.returns
returns c = ready-keeps
