use Rattle.std.proofs.Common.{length, ap, arith}
use Rattle.chunk_sums.proofs.ChunkLemmas.{WrittenSoFar-here, WrittenSoFar-four, room_for_four, all_written}
use Rattle.chunk_sums.proofs.chunks.write_each_over.Goals as goal

pub returns-clause-sums : goal.returns-clause-sums
returns-clause-sums g c = all_written _ _ _ _ _ _ _ _ c.loop-at.invariant.so_far (omega arith)

pub put_all-requires : goal.put_all-requires
put_all-requires g c =
    let four = c.in-Some.ensures in
    let room = room_for_four _ _ _ _ _ _ _ _ c.loop-at.invariant.so_far four.even four.enough in
    omega (arith, ap length four.value)

pub loop-at-preserved-in-Some : goal.loop-at-preserved-in-Some
loop-at-preserved-in-Some g c =
    let four = c.in-Some.ensures in record {
      so_far =
          WrittenSoFar-four _ _ _ _ _ _ _ _ c.loop-at.invariant.so_far four.even four.enough _ _ _
          c.split_at.ensures.back four.value c.put_all.ensures (omega arith);
      ready = c.four_first.ensures.ready;
    }

pub loop-at-preserved : goal.loop-at-preserved
loop-at-preserved g c = record {
  so_far =
      WrittenSoFar-here _ _ _ _ _ _ _ _ c.loop-at.invariant.so_far _ _ _ _ _ c.requires.chunk_positive (omega arith) c.min.ensures c.split_at-in-loop-at.ensures.front
      c.split_at-in-loop-at.ensures.back c.crc.ensures c.put.ensures (omega arith);
  ready = c.four_first.ensures.ready;
}

pub overflow_mul-chunk : goal.overflow_mul-chunk
overflow_mul-chunk g c = omega (arith, c.in-Some.ensures.size.1)
