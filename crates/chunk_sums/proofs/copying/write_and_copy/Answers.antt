use Rattle.std.proofs.Common.{[], arith}
use Rattle.std.proofs.lemmas.List.Elements.{All-nil, All-cons}
use Rattle.chunk_sums.specs.Four.{AreReady}
use Rattle.chunk_sums.proofs.copying.write_and_copy.Goals as goal

pub write_and_copy_over-requires-then-chunk-le-USUAL : goal.write_and_copy_over-requires-then-chunk-le-USUAL
write_and_copy_over-requires-then-chunk-le-USUAL c =
    let ready = All-cons (AreReady c.args.chunk) c.new.result [] (c.new.ensures c.args.chunk) (All-nil (AreReady c.args.chunk)) in
    (omega arith, (c.requires.has_sum, (c.requires.chunk_positive, (c.requires.first_positive, (omega arith, (ready, (c.requires.four_per_chunk, c.requires.room)))))))

pub write_and_copy_over-requires-else-chunk-le-USUAL : goal.write_and_copy_over-requires-else-chunk-le-USUAL
write_and_copy_over-requires-else-chunk-le-USUAL c =
    let lanes = c.new-else-chunk-le-USUAL in
    let ready = All-cons (AreReady c.args.chunk) lanes.result [] (lanes.ensures c.args.chunk) (All-nil (AreReady c.args.chunk)) in
    (omega arith, (c.requires.has_sum, (c.requires.chunk_positive, (c.requires.first_positive, (omega arith, (ready, (c.requires.four_per_chunk, c.requires.room)))))))
