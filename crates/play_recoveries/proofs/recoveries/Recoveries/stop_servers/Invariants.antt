-- So many servers were looked at.
use Rattle.play_recoveries.proofs.EndLaws.{Ending}
use Rattle.play_recoveries.proofs.recoveries.Recoveries.stop_servers.Given as goal

abbrev pub invariant-loop-place : goal.invariant-loop-place
invariant-loop-place g l = Ending g.R.Roads g.I.LinkIn g.O.LinkOut l.nodes l.node l.fn.self l.fn.roads l.place l.self l.roads
