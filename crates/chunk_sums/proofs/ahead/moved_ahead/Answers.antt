use Rattle.std.proofs.Common.{◌≡◌, ◌++◌, ap, ◌∙◌, length, drop, arith}
use Rattle.chunk_sums.specs.Crc.{crc32c_polynomial}
use Rattle.chunk_sums.specs.Ahead.{far_places}
use Rattle.chunk_sums.proofs.AheadLemmas.{held-start, front-far, get_or-drop-zeros, zeros}
use Rattle.chunk_sums.proofs.ahead.moved_ahead.Goals as goal

pub loop-rest-init : goal.loop-rest-init
loop-rest-init c =
    let front = c.to_le_bytes.result in
    let four : length front ≡ 4 = ap length c.to_le_bytes.ensures in
    let buffer : c.put_front.new.buffer ≡ front ++ drop 4 (zeros 8482) = c.put_front.ensures ∙ ap (λ n. front ++ drop n (zeros 8482)) four in
    record {
      so_far =
          held-start crc32c_polynomial far_places 414 c.args.start front-far c.put_front.new.buffer front (drop 4 (zeros 8482)) c.args.body.now (omega arith) buffer
          c.to_le_bytes.ensures (get_or-drop-zeros 4 8482) (omega arith);
      behind = c.requires;
      room = omega arith;
    }
