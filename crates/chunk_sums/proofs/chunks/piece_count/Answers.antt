use Rattle.std.proofs.Common.{ap, sym, ◌∙◌, arith}
use Rattle.chunk_sums.specs.Chunks.{sum_count}
use Rattle.chunk_sums.proofs.ChunkLemmas.{has_sum, all_counted, length-summed_chunks, summed_chunks-place}
use Rattle.chunk_sums.proofs.chunks.piece_count.Goals as goal

pub returns-in-Crc32-clause-value : goal.returns-in-Crc32-clause-value
returns-in-Crc32-clause-value c =
    c.chunk_count.ensures ∙ sym (all_counted c.args.kind c.args.body_len c.args.first_len c.args.chunk (has_sum c.args.kind c.in-Crc32.is))

pub returns-in-Crc32-clause-count : goal.returns-in-Crc32-clause-count
returns-in-Crc32-clause-count c = λ body e.
    length-summed_chunks c.args.kind c.args.first_len c.args.chunk body c.requires.first_positive c.requires.chunk_positive
    ∙ ap (λ n. sum_count c.args.kind n c.args.first_len c.args.chunk) e ∙ sym (returns-in-Crc32-clause-value c)

pub returns-in-Crc32-clause-places : goal.returns-in-Crc32-clause-places
returns-in-Crc32-clause-places c = λ body e i h.
    summed_chunks-place c.args.kind i c.args.first_len c.args.chunk body c.requires.first_positive c.requires.chunk_positive
    (omega (arith, returns-in-Crc32-clause-count c body e))
