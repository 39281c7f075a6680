use Rattle.std.proofs.Common.{◌*◌, length, get_or, ap, refl, ◌∙◌, arith}
use Rattle.std.proofs.lemmas.Simd.{length-put_chunk}
use lib.Lanes.{number_l, digits_l}
use Rattle.chunk_sums.proofs.LaneLemmas.{words-more}
use Rattle.chunk_sums.proofs.lanes.words_of.Goals as goal

pub loop-step-preserved : goal.loop-step-preserved
loop-step-preserved c =
    let s = c.loop-step in
    let v = c.bytes_at-four in
    let four = digits_l 4294967296 4 (number_l 256 v.result) in record {
      len = ap length c.put_words.ensures ∙ length-put_chunk (4 * s.step) s.words four ∙ s.invariant.len;
      are = λ k h.
          ap (λ l. get_or l k 0) c.put_words.ensures
          ∙ words-more c.args.bytes.now s.words v.result s.step (4 * s.step) (λ i. omega (arith, c.type_inv.bytes i)) refl
          (omega (arith, c.requires)) (omega (arith, s.invariant.len)) v.ensures.len v.ensures.value s.invariant.are k h;
    }

pub returns : goal.returns
returns c =
    let s = c.loop-step in
    (omega (arith, s.invariant.len), λ k h. s.invariant.are k (omega (arith, s.invariant.len)))
