use Rattle.std.proofs.Common.{◌∙◌, arith, refl}
use Rattle.chunk_sums.specs.Crc.{crc32c_polynomial}
use Rattle.chunk_sums.specs.Ahead.{far_places}
use Rattle.chunk_sums.proofs.AheadLemmas.{moved-more, IsSpan-far, read, ReadsBytes, place}
use Rattle.chunk_sums.proofs.ahead.move_range.Goals as goal

pub loop-i-preserved : goal.loop-i-preserved
unfolding read ReadsBytes place
loop-i-preserved c =
    c.loop-i.invariant
    ∙ moved-more crc32c_polynomial far_places 417 IsSpan-far c.loop-i.buffer c.args.body.now c.loop-i.i c.loop-i.i _ (omega arith) (omega arith) (omega arith)
    (omega arith, (omega arith, (omega arith, (omega arith, (omega arith, tt))))) refl
