use Rattle.play_lines.proofs.Ruled.{rules_plays}
use Rattle.play_lines.proofs.ruling.rules_are_plays.Goals as goal

pub returns : goal.returns
returns g c = rules_plays g.F.Files g.R.Roads g.I.LinkIn g.O.LinkOut
