use Rattle.std.proofs.Common.{◌≡◌, length, arith}
use Rattle.std.proofs.lemmas.Bool.Decides.{nat_tests}
use Rattle.chunk_sums.proofs.ChunkLemmas.{WrittenSoFar-piece, room_for_piece, all_written_at_end, copied_more, all_copied}
use Rattle.chunk_sums.proofs.copying.write_and_copy_over.Goals as goal

pub put_sums-at-requires : goal.put_sums-at-requires
put_sums-at-requires g c =
    let s = c.loop-rest.invariant.so_far in
    let room = room_for_piece _ _ _ _ _ _ _ _ s _ _ _ _ c.requires.chunk_positive c.piece_len.ensures.0 c.piece_len.ensures.1
    c.min.ensures c.split_at.ensures.front c.split_at.ensures.back in
    (omega (arith, c.requires.lane_len), (c.requires.has_sum, (c.requires.chunk_positive, (s.positive, (c.requires.lane_len, (c.loop-rest.invariant.ready, room))))))

pub loop-rest-preserved : goal.loop-rest-preserved
loop-rest-preserved g c = record {
  so_far =
      WrittenSoFar-piece _ _ _ _ _ _ _ _ c.loop-rest.invariant.so_far _ _ _ _ c.requires.chunk_positive c.piece_len.ensures.0 c.piece_len.ensures.1
      c.min.ensures c.split_at.ensures.front c.split_at.ensures.back _ _ c.put_sums-at.ensures.place c.put_sums-at.ensures.sums (omega arith);
  ready = c.put_sums-at.ensures.ready;
  copied =
      copied_more _ _ _ _ _ _ _ c.loop-rest.invariant.copied c.append.ensures.items c.split_at.ensures.front c.split_at.ensures.back;
  room = omega arith;
}

pub returns-clause-sums : goal.returns-clause-sums
returns-clause-sums g c =
    let none : length c.loop-rest.rest.now ≡ 0 = grind (arith, nat_tests) in
    all_written_at_end _ _ _ _ _ _ _ _ c.loop-rest.invariant.so_far none

pub returns-clause-copied : goal.returns-clause-copied
returns-clause-copied g c =
    let none : length c.loop-rest.rest.now ≡ 0 = grind (arith, nat_tests) in
    all_copied _ _ _ c.loop-rest.invariant.copied none
