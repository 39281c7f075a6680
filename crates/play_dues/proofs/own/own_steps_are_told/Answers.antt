-- Client by client.
use Rattle.play_dues.proofs.OwnLaws.{own_listed_so}
use Rattle.play_dues.proofs.own.own_steps_are_told.Goals as goal

pub returns : goal.returns
returns g c = λ w net queues clients each. own_listed_so g.I.LinkIn g.O.LinkOut w net queues clients each
