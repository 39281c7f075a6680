-- The law.
use Rattle.play_reads.proofs.FrameLaws.{cuts_kept}
use Rattle.play_reads.proofs.frames.cuts_keep_reads.Goals as goal

pub returns : goal.returns
returns g c = cuts_kept g.I.LinkIn g.O.LinkOut c.cuts_are_losses.ensures c.ends_stay_in_cuts.ensures
