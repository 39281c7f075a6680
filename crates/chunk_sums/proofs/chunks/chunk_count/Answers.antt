use Rattle.std.proofs.Common.{◌+◌, ap, sym, ◌∙◌, arith}
use Rattle.std.specs.Int.{div_ceil}
use Rattle.chunk_sums.proofs.ChunkLemmas.{count_of-some}
use Rattle.chunk_sums.proofs.chunks.chunk_count.Goals as goal

pub returns : goal.returns
returns c =
    ap (λ n. 1 + n) (c.div_ceil.ensures ∙ ap (λ n. div_ceil n c.args.chunk) c.saturating_sub.ensures)
    ∙ sym (count_of-some c.args.body_len c.args.first_len c.args.chunk (omega arith))
