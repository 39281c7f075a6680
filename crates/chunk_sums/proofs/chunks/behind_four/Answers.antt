use Rattle.std.proofs.Common.{sym, ◌∙◌, arith}
use Rattle.std.specs.Cmp.Lexicographic.{same_text}
use Rattle.chunk_sums.proofs.ChunkLemmas.{four_right, four_same}
use Rattle.chunk_sums.proofs.chunks.behind_four.Goals as goal

pub returns-then-eq-clause-right : goal.returns-then-eq-clause-right
returns-then-eq-clause-right g c =
    four_right c.args.kind c.args.chunk c.args.body.now c.args.sums.now (omega (arith, c.in_ok-found.ensures.size.0)) c.in_ok-found.ensures.enough
    (sym c.in_ok-found.ensures.value ∙ same_text _ _ c.if-eq.ensures
    ∙ four_same c.word_at.ensures c.word_at-2.ensures c.word_at-3.ensures c.word_at-4.ensures)
