use Rattle.play_completeness.proofs.Awaiting.{awaited-due}
use Rattle.play_completeness.proofs.what_is_awaited_is_due.Goals as goal

pub returns : goal.returns
returns c = awaited-due
