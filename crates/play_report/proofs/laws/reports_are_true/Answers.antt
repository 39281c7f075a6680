-- Each sum is that of the replica's bytes.
use Rattle.play_report.proofs.TrueLemmas.{reports_true}
use Rattle.play_report.proofs.laws.reports_are_true.Goals as goal

pub returns : goal.returns
returns g c = λ count running w net n lines report are seen r. reports_true g.F.Files g.I.LinkIn g.O.LinkOut count running w net n lines report are seen r
