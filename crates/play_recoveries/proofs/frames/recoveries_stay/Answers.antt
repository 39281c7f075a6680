-- The laws.
use Rattle.play_recoveries.proofs.KeepLaws.{recoveries_kept}
use Rattle.play_recoveries.proofs.frames.recoveries_stay.Goals as goal

pub returns : goal.returns
returns g c = recoveries_kept g.I.LinkIn g.O.LinkOut c.primary_clients_stay.ensures
