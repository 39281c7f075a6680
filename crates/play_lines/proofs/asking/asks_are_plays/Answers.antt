use Rattle.play_lines.proofs.Asked.{ask_plays}
use Rattle.play_lines.proofs.asking.asks_are_plays.Goals as goal

pub returns : goal.returns
returns g c = ask_plays g.F.Files g.R.Roads g.I.LinkIn g.O.LinkOut
