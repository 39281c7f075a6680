use Rattle.std.proofs.Common.{◌≡◌, ◌+◌, ◌*◌, ap, sym, ◌∙◌, drop, take, arith}
use lib.Bits.{bit_xor}
use Rattle.chunk_sums.specs.Crc.{number, through_four}
use Rattle.chunk_sums.proofs.SlicingLemmas.{register_sixteen}
use Rattle.chunk_sums.proofs.slicing.sixteen_of_words.Goals as goal

pub returns : goal.returns
returns g c bytes are =
    let poly = g.P.Polynomial.reflected in
    let at = c.args.at in
    let second : 4 * (at + 1) ≡ 4 * at + 4 = omega arith in
    let third : 4 * (at + 2) ≡ 4 * at + 8 = omega arith in
    let fourth : 4 * (at + 3) ≡ 4 * at + 12 = omega arith in
    let w0 = are.1 at (omega arith) in
    let w1 = are.1 (at + 1) (omega arith) ∙ ap (λ p. number (take 4 (drop p bytes))) second in
    let w2 = are.1 (at + 2) (omega arith) ∙ ap (λ p. number (take 4 (drop p bytes))) third in
    let w3 = are.1 (at + 3) (omega arith) ∙ ap (λ p. number (take 4 (drop p bytes))) fourth in
    c.four_words.ensures
    ∙ (λ i. through_four poly (bit_xor (w0 i) c.args.state) (w1 i) (w2 i) (w3 i))
    ∙ sym (register_sixteen poly c.args.state bytes (4 * at) (omega (arith, are.0)))
