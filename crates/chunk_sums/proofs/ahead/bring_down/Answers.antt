use Rattle.std.proofs.Common.{◌≡◌, ap, ◌∙◌, sym, take, drop, arith}
use Rattle.chunk_sums.proofs.AheadLemmas.{copied-more, kept-more}
use Rattle.chunk_sums.proofs.ahead.bring_down.Goals as goal

pub loop-i-preserved : goal.loop-i-preserved
loop-i-preserved c = record {
  copied =
      copied-more c.loop-i.buffer c.args.buffer.now c.loop-i.i 8064 (omega arith) (omega arith) c.loop-i.invariant.copied c.loop-i.invariant.kept;
  kept = kept-more c.loop-i.buffer c.args.buffer.now c.loop-i.i _ c.loop-i.invariant.kept;
}

pub returns : goal.returns
returns c =
    let all : 418 ≡ c.loop-i.i = omega arith in
    ap (λ n. take n c.loop-i.buffer) all ∙ c.loop-i.invariant.copied ∙ ap (λ n. take n (drop 8064 c.args.buffer.now)) (sym all)
