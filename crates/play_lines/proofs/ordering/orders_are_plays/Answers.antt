use Rattle.play_lines.proofs.Ordered.{orders_plays}
use Rattle.play_lines.proofs.ordering.orders_are_plays.Goals as goal

pub returns : goal.returns
returns g c = orders_plays g.F.Files g.R.Roads g.I.LinkIn g.O.LinkOut
