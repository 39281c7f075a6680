-- What a primary shows stays.
use Rattle.play_primaries.proofs.StayLaws.{primary_clients_kept}
use Rattle.play_primaries.proofs.frames.primary_clients_stay.Goals as goal

pub returns : goal.returns
returns g c = primary_clients_kept g.I.LinkIn g.O.LinkOut
