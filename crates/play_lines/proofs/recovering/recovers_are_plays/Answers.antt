use Rattle.play_lines.proofs.Joined.{recover_plays}
use Rattle.play_lines.proofs.recovering.recovers_are_plays.Goals as goal

pub returns : goal.returns
returns g c = recover_plays g.F.Files g.R.Roads g.I.LinkIn g.O.LinkOut
