use Rattle.std.proofs.Common.{◌*◌, refl, arith}
use Rattle.chunk_sums.proofs.ChunkLemmas.{four_same}
use Rattle.chunk_sums.proofs.SlicingLemmas.{register-next, register-all}
use Rattle.chunk_sums.proofs.four.four_registers.Goals as goal

pub loop-step-preserved : goal.loop-step-preserved
loop-step-preserved g c =
    let s = c.loop-step in
    let poly = g.P.Polynomial.reflected in
    let a = c.args.lanes.now.a.mixed in
    let b = c.args.lanes.now.b.mixed in
    let c' = c.args.lanes.now.c.mixed in
    let d = c.args.lanes.now.d.mixed in record {
      first = register-next poly a s.step _ _ (4 * s.step) refl s.invariant.first (c.sixteen_of_words-a.ensures a c.words_of-last_a.ensures);
      second = register-next poly b s.step _ _ (4 * s.step) refl s.invariant.second (c.sixteen_of_words-b.ensures b c.words_of-last_b.ensures);
      third = register-next poly c' s.step _ _ (4 * s.step) refl s.invariant.third (c.sixteen_of_words-c.ensures c' c.words_of-last_c.ensures);
      fourth = register-next poly d s.step _ _ (4 * s.step) refl s.invariant.fourth (c.sixteen_of_words-d.ensures d c.words_of-last_d.ensures);
    }

pub returns : goal.returns
returns g c =
    let s = c.loop-step in
    let poly = g.P.Polynomial.reflected in
    four_same
    (register-all poly c.args.lanes.now.a.mixed s.step _ s.invariant.first (omega arith))
    (register-all poly c.args.lanes.now.b.mixed s.step _ s.invariant.second (omega arith))
    (register-all poly c.args.lanes.now.c.mixed s.step _ s.invariant.third (omega arith))
    (register-all poly c.args.lanes.now.d.mixed s.step _ s.invariant.fourth (omega arith))
