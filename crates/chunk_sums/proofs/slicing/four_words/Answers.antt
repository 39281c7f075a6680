use lib.Bits.{bit_xor}
use Rattle.chunk_sums.proofs.slicing.four_words.Goals as goal

pub returns : goal.returns
returns g c = λ i. bit_xor (bit_xor (bit_xor (c.four-fourth.ensures i) (c.four-third.ensures i)) (c.four-second.ensures i)) (c.four-first.ensures i)
