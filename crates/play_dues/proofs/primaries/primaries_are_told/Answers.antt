-- Client by client.
use Rattle.play_dues.proofs.PrimaryLaws.{primaries_listed_so}
use Rattle.play_dues.proofs.primaries.primaries_are_told.Goals as goal

pub returns : goal.returns
returns g c = λ w net queues blocks recoveries h. primaries_listed_so g.I.LinkIn g.O.LinkOut w net queues recoveries.clients.items h.clients.each
