use Rattle.play_completeness.proofs.Hearing.{hearing-keeps}
use Rattle.play_completeness.proofs.hearing_keeps_links.Goals as goal

pub returns : goal.returns
returns c = hearing-keeps
