-- What a reading client shows stays.
use Rattle.play_readers.proofs.StayLaws.{read_clients_kept}
use Rattle.play_readers.proofs.frames.read_clients_stay.Goals as goal

pub returns : goal.returns
returns g c = read_clients_kept g.I.LinkIn g.O.LinkOut
