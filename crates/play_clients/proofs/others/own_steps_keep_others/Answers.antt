-- The law.
use Rattle.play_clients.proofs.OtherLaws.{own_steps_keep}
use Rattle.play_clients.proofs.others.own_steps_keep_others.Goals as goal

pub returns : goal.returns
returns g = own_steps_keep
