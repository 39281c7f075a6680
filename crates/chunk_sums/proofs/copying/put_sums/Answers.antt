use Rattle.std.proofs.Common.{arith}
use Rattle.chunk_sums.proofs.ChunkLemmas.{length-chunks}
use Rattle.chunk_sums.proofs.copying.put_sums.Goals as goal

pub write_each_over-requires : goal.write_each_over-requires
write_each_over-requires g c =
    let count = length-chunks c.args.len c.args.chunk c.args.piece.now c.requires.len_positive c.requires.chunk_positive in
    (omega (arith, c.requires.lane_len), (c.requires.has_sum, (c.requires.chunk_positive, (c.requires.len_positive, (c.requires.lane_len, (c.requires.ready, omega (arith, count)))))))
