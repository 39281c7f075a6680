-- All but the books' drawers is as it was.
use Rattle.play_report.proofs.LawLemmas.{still_show, still_fit}
use Rattle.play_report.proofs.laws.reports_keep_nodes.Goals as goal

pub returns-clause-show : goal.returns-clause-show
returns-clause-show g c = λ w net old new l s. still_show g.F.Files g.I.LinkIn g.O.LinkOut w net old new l s

pub returns-clause-fit : goal.returns-clause-fit
returns-clause-fit g c = λ old new l fit. still_fit g.F.Files old new l fit
