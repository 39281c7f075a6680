-- The law.
use Rattle.play_recoveries.proofs.FrameLaws.{cuts_kept}
use Rattle.play_recoveries.proofs.frames.cuts_keep_recoveries.Goals as goal

pub returns : goal.returns
returns g c = cuts_kept g.I.LinkIn g.O.LinkOut c.primary_clients_stay.ensures c.cuts_are_losses.ensures c.ends_stay_in_cuts.ensures
