-- The law.
use Rattle.play_recoveries.proofs.StartLaws.{starts_kept}
use Rattle.play_recoveries.proofs.frames.starts_keep_recoveries.Goals as goal

pub returns : goal.returns
returns g c = starts_kept g.I.LinkIn g.O.LinkOut c.primary_clients_stay.ensures
