use Rattle.std.proofs.Common.{◌≡◌, ◌++◌, ap, ◌∙◌, arith, refl, take, drop}
use Rattle.chunk_sums.specs.Crc.{register, crc32c_polynomial}
use Rattle.chunk_sums.specs.Ahead.{far_places}
use Rattle.chunk_sums.proofs.AheadLemmas.{MixedSoFar-more, MixedSoFar-all, get_or-drop-zeros, zeros, read, place}
use Rattle.chunk_sums.proofs.ahead.settle.Goals as goal

pub loop-i-preserved : goal.loop-i-preserved
unfolding read place
loop-i-preserved c =
    let front = c.split_at.result.0.now in
    let padded : c.put_front.new.buffer ≡ take 418 c.args.window.now ++ drop 418 (zeros 836) =
    c.put_front.ensures ∙ ap (λ n. front ++ drop n (zeros 836)) c.split_at.ensures.front_len
    ∙ ap (λ l. l ++ drop 418 (zeros 836)) c.split_at.ensures.front in
    MixedSoFar-more far_places (take 418 c.args.window.now) c.args.last.now c.loop-i.mixed _ _ c.loop-i.i _ c.loop-i.invariant (omega arith) padded
    (get_or-drop-zeros 418 836) refl

pub returns : goal.returns
returns c =
    c.sliced.ensures ∙ ap (register crc32c_polynomial 0) (MixedSoFar-all far_places _ _ _ _ c.loop-i.invariant (omega arith))
