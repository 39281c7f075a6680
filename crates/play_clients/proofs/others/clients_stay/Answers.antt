-- What a client shows stays.
use Rattle.play_clients.proofs.StayLaws.{clients_kept}
use Rattle.play_clients.proofs.others.clients_stay.Goals as goal

pub returns : goal.returns
returns g c = clients_kept g.I.LinkIn g.O.LinkOut
