-- The search finds it, if it is there.
use Rattle.std.proofs.Common.{◌∙◌}
use Rattle.restart_scan.proofs.StrayLemmas.{among_searched}
use Rattle.restart_scan.proofs.strays.is_among.Goals as goal

pub returns : goal.returns
returns c = λ up. c.is_ok.ensures.value ∙ among_searched c.args.numbers.now c.args.number c.binary_search.result c.binary_search.ensures.position up
