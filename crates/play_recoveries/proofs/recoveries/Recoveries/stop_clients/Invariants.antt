-- So many clients were looked at.
use Rattle.play_recoveries.proofs.HaltLaws.{Halting}
use Rattle.play_recoveries.proofs.recoveries.Recoveries.stop_clients.Given as goal

abbrev pub invariant-loop-place : goal.invariant-loop-place
invariant-loop-place g l = Halting g.R.Roads g.I.LinkIn g.O.LinkOut l.node l.fn.self l.fn.roads l.place l.self l.roads
