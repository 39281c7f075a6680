use Rattle.std.proofs.Common.{sym, ◌∙◌}
use lib.Bits.{bit_xor}
use Rattle.chunk_sums.specs.Crc.{through_four}
use Rattle.chunk_sums.proofs.SlicingLemmas.{register_sixteen}
use Rattle.chunk_sums.proofs.slicing.sixteen.Goals as goal

pub returns : goal.returns
returns g c =
    let poly = g.P.Polynomial.reflected in
    c.four_words.ensures
    ∙ (λ i. through_four poly (bit_xor (c.word_at.ensures i) c.args.state) (c.word_at-second.ensures i) (c.word_at-third.ensures i) (c.word_at-fourth.ensures i))
    ∙ sym (register_sixteen poly c.args.state c.args.bytes.now c.args.at c.requires)
