use Rattle.play_lines.proofs.Faulted.{arms_plays}
use Rattle.play_lines.proofs.faulting.arms_are_plays.Goals as goal

pub returns : goal.returns
returns g c = arms_plays g.F.Files g.R.Roads g.I.LinkIn g.O.LinkOut
