-- So many servers were looked at.
use Rattle.play_reads.proofs.EndLaws.{Ending}
use Rattle.play_reads.proofs.reads.Reads.stop.Given as goal

abbrev pub invariant-loop-place : goal.invariant-loop-place
invariant-loop-place g l = Ending g.R.Roads g.I.LinkIn g.O.LinkOut l.nodes l.node l.fn.self l.fn.roads l.place l.self l.roads
