-- The law.
use Rattle.play_clients.proofs.OtherLaws.{hearing_keeps}
use Rattle.play_clients.proofs.others.hearing_keeps_others.Goals as goal

pub returns : goal.returns
returns g = hearing_keeps
