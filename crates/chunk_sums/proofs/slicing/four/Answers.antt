use Rattle.std.proofs.Common.{◌≡◌, ℕ, ◌+◌, ◌/◌, get_or, ap, sym, ◌∙◌, arith}
use lib.Bits.{bit_xor, xor_zero_r}
use Rattle.chunk_sums.specs.Crc.{advance}
use Rattle.chunk_sums.proofs.LinearLemmas.{advance-zero}
use Rattle.chunk_sums.proofs.SlicingLemmas.{look_up_more}
use Rattle.chunk_sums.proofs.slicing.four.Goals as goal

pub returns : goal.returns
returns g c =
    let poly = g.P.Polynomial.reflected in
    let x = c.args.word in
    let k = c.args.behind in
    let e0 = c.entry.result in
    let e1 = bit_xor e0 c.entry-2.result in
    let e2 = bit_xor e1 c.entry-3.result in
    let e3 = bit_xor e2 c.entry-4.result in
    let none : x / 4294967296 ≡ 0 = omega arith in
    let byte : (i : ℕ) → get_or c.to_le_bytes.result i 0 ≡ _ = λ i. ap (λ l. get_or l i 0) c.to_le_bytes.ensures in
    sym (
    look_up_more poly 0 (k + 3) (k + 4) _ x (x / 256) _ _ (omega arith) (omega arith) (byte 0) (omega arith) c.entry.ensures
    ∙ look_up_more poly e0 (k + 2) (k + 3) _ (x / 256) (x / 65536) _ _ (omega arith) (omega arith) (byte 1) (omega arith) c.entry-2.ensures
    ∙ look_up_more poly e1 (k + 1) (k + 2) _ (x / 65536) (x / 16777216) _ _ (omega arith) (omega arith) (byte 2) (omega arith) c.entry-3.ensures
    ∙ look_up_more poly e2 k (k + 1) _ (x / 16777216) (x / 4294967296) _ _ (omega arith) (omega arith) (byte 3) (omega arith) c.entry-4.ensures
    ∙ ap (λ v. bit_xor e3 (advance poly k v)) none ∙ ap (bit_xor e3) (advance-zero poly k) ∙ xor_zero_r e3)
