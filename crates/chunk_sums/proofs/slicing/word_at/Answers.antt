use Rattle.std.proofs.Common.{◌≡◌, ℕ, suc, ◌+◌, get_or, ap, sym, ◌∙◌, arith}
use Rattle.chunk_sums.proofs.SlicingLemmas.{number-word, word}
use Rattle.chunk_sums.proofs.slicing.word_at.Goals as goal

pub returns : goal.returns
unfolding word
returns c =
    let bytes = c.args.bytes.now in
    let at = c.args.at in
    let second : suc at ≡ at + 1 = omega arith in
    let third : suc (suc at) ≡ at + 2 = omega arith in
    let fourth : suc (suc (suc at)) ≡ at + 3 = omega arith in
    let read : ℕ → ℕ = λ n. get_or bytes n 0 in
    omega (arith, c.from_le_bytes.ensures, ap read second, ap read third, ap read fourth)
    ∙ sym (number-word bytes (λ i. omega (arith, c.type_inv.bytes i)) 4 at c.requires)
