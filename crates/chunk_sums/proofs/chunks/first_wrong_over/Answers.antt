use Rattle.std.proofs.Common.{arith, sym, refl, ◌∙◌}
use Rattle.std.proofs.lemmas.Bool.{false≢true}
use Rattle.chunk_sums.proofs.ChunkLemmas.{SoFar-here, SoFar-four, not_right_here, all_right, sums_of-right, IsRight_from_same}
use Rattle.chunk_sums.proofs.chunks.first_wrong_over.Goals as goal

pub loop-sum-preserved-in-Some-behind_four : goal.loop-sum-preserved-in-Some-behind_four
loop-sum-preserved-in-Some-behind_four g c =
    let four = c.in-Some-behind_four.ensures in record {
      so_far =
          SoFar-four _ _ _ _ _ _ _ _ _ c.loop-sum.invariant.so_far _ _ four.even four.enough.0 four.after four.behind four.right;
      ready = c.behind_four.ensures.ready;
    }

pub loop-sum-preserved : goal.loop-sum-preserved
loop-sum-preserved g c =
    let word = c.in-Some.ensures.cases in record {
      so_far =
          SoFar-here _ _ _ _ _ _ _ _ _ c.loop-sum.invariant.so_far _ _ _ _ _ c.requires.chunk_positive (omega (arith, word.2)) c.min.ensures
          c.split_at.ensures.front c.split_at.ensures.back word.0 word.1 (sym c.crc.ensures ∙ c.if-crc-from_be_bytes.false ∙ c.from_be_bytes.ensures);
      ready = c.behind_four.ensures.ready;
    }

pub returns-then-crc-from_be_bytes-clause-wrong : goal.returns-then-crc-from_be_bytes-clause-wrong
returns-then-crc-from_be_bytes-clause-wrong g c =
    let word = c.in-Some.ensures.cases in
    not_right_here _ _ _ _ _ _ _ _ _ c.loop-sum.invariant.so_far _ _ _ c.requires.chunk_positive (omega (arith, word.2)) c.min.ensures
    c.split_at.ensures.front word.0 (λ e. c.if-crc-from_be_bytes.true (c.crc.ensures ∙ e ∙ sym c.from_be_bytes.ensures))

pub returns-then-crc-from_be_bytes-clause-same : goal.returns-then-crc-from_be_bytes-clause-same
returns-then-crc-from_be_bytes-clause-same g c =
    let word = c.in-Some.ensures.cases in
    let s = c.loop-sum.invariant.so_far in (
      λ e. absurd (false≢true (sym e)),
      λ same. absurd (returns-then-crc-from_be_bytes-clause-wrong g c
          (IsRight_from_same _ _ c.args.sums.now c.loop-sum.number same (omega (arith, word.2, s.place, s.counted)))),
    )

pub returns-clause-same : goal.returns-clause-same
returns-clause-same g c =
    let s = c.loop-sum.invariant.so_far in (
      λ _. sums_of-right _ _ c.args.sums.now (λ i. omega (arith, c.type_inv.sums i)) c.requires.four_per_chunk (all_right _ _ _ _ _ _ _ _ _ s c.in_default.ensures.cases),
      λ _. refl,
    )
