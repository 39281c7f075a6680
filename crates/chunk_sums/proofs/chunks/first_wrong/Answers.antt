use Rattle.std.proofs.Common.{[], arith}
use Rattle.std.proofs.lemmas.List.Elements.{All-nil, All-cons}
use Rattle.chunk_sums.specs.Four.{AreReady}
use Rattle.chunk_sums.proofs.chunks.first_wrong.Goals as goal

pub first_wrong_over-requires-then-chunk-eq-LEAST : goal.first_wrong_over-requires-then-chunk-eq-LEAST
first_wrong_over-requires-then-chunk-eq-LEAST c =
    let ready = All-cons (AreReady c.args.chunk) c.new.result [] (c.new.ensures c.args.chunk) (All-nil (AreReady c.args.chunk)) in
    (omega arith, (c.requires.has_sum, (c.requires.chunk_positive, (c.requires.first_positive, (omega arith, (ready, c.requires.four_per_chunk))))))

pub first_wrong_over-requires-else-chunk-eq-LEAST : goal.first_wrong_over-requires-else-chunk-eq-LEAST
first_wrong_over-requires-else-chunk-eq-LEAST c =
    let lanes = c.new-else-chunk-eq-LEAST in
    let ready = All-cons (AreReady c.args.chunk) lanes.result [] (lanes.ensures c.args.chunk) (All-nil (AreReady c.args.chunk)) in
    (omega arith, (c.requires.has_sum, (c.requires.chunk_positive, (c.requires.first_positive, (omega arith, (ready, c.requires.four_per_chunk))))))
