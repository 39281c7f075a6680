-- Client by client.
use Rattle.play_dues.proofs.ReaderLaws.{readers_listed_so}
use Rattle.play_dues.proofs.readers.readers_are_told.Goals as goal

pub returns : goal.returns
returns g c = λ w net queues blocks reads h. readers_listed_so g.I.LinkIn g.O.LinkOut w net queues reads.clients.items h.clients.each
