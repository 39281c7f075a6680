use Rattle.std.proofs.Common.{◌∙◌, arith}
use Rattle.chunk_sums.proofs.SlicingLemmas.{register-more}
use Rattle.chunk_sums.proofs.slicing.sliced.Goals as goal

pub loop-front-preserved : goal.loop-front-preserved
loop-front-preserved g c =
    let cases = c.in-Some.ensures.cases in
    register-more g.P.Polynomial.reflected _ _ _ _ _ (omega (arith, cases.2)) cases.0 cases.1 c.sixteen-state.ensures ∙ c.loop-front.invariant
