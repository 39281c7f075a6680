use Rattle.std.proofs.Common.{get_or, ap, ◌∙◌}
use lib.Bits.{bit_xor}
use Rattle.chunk_sums.specs.Crc.{advance, enter, byte_step}
use Rattle.chunk_sums.proofs.SlicingLemmas.{look_up_low}
use Rattle.chunk_sums.proofs.slicing.single.Goals as goal

pub returns : goal.returns
unfolding advance enter
returns g c =
    look_up_low g.P.Polynomial.reflected _ _ c.entry.result (ap (λ l. get_or l 0 0) c.to_le_bytes.ensures) c.entry.ensures
    ∙ ap (λ b. byte_step g.P.Polynomial.reflected (bit_xor c.args.state b)) c.from.ensures
