use Rattle.std.proofs.Common.{◌≡◌, ◌+◌, get_or, ap, sym, ◌∙◌, arith}
use lib.Bits.{bit_xor}
use Rattle.std.proofs.lemmas.Simd.{get_or-zip2}
use Rattle.chunk_sums.specs.Lanes.{started}
use Rattle.chunk_sums.proofs.LaneLemmas.{started-first, started-later, first_ones}
use Rattle.chunk_sums.proofs.lanes.started_at.Goals.{then-at-eq0, else-at-eq0}
use Rattle.chunk_sums.proofs.lanes.started_at.Goals as goal

pub returns-clause-value : goal.returns-clause-value
returns-clause-value c =
    let piece = c.args.piece.now in
    let bytes = c.bytes_at-bytes in
    elim c.if-at-eq0.branch [
      | then-at-eq0 w ↦ λ k below.
          let here : c.args.at + k ≡ k = omega (arith, w.if-at-eq0) in
          ap (λ l. get_or l k 0) w.result-is
          ∙ get_or-zip2 bit_xor bytes.result first_ones k 0 0 0 (omega (arith, bytes.ensures.len)) below
          ∙ ap (λ b. bit_xor b (get_or first_ones k 0)) (bytes.ensures.value k below ∙ ap (λ n. get_or piece n 0) here)
          ∙ sym (started-first piece k (omega (arith, c.requires.within)))
          ∙ ap (λ n. get_or (started piece) n 0) (sym here)
      | else-at-eq0 w ↦ λ k below.
          ap (λ l. get_or l k 0) w.result-is ∙ bytes.ensures.value k below
          ∙ sym (started-later piece (c.args.at + k) (omega (arith, w.if-at-eq0)) (omega (arith, c.requires.within)))
    ]
