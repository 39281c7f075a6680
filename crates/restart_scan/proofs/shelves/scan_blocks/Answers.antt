-- One block after another.
use Rattle.std.proofs.Common.{get_or, arith}
use Rattle.std.proofs.lemmas.Result.{err_from_is_err_and}
use Rattle.restart_scan.proofs.GoingLemmas.{at_same, next_told, stops_all, ends_all}
use Rattle.restart_scan.proofs.shelves.scan_blocks.Goals as goal

pub loop-block-preserved : goal.loop-block-preserved
loop-block-preserved g c =
    let so_far = c.loop-block.invariant in
    let next = c.in_ok-scan_next.ensures in
    let blocks = c.args.blocks.now in
    let i = c.loop-block.block-index in
    record {
      so_far = next_told blocks i (get_or blocks i 0) (g.S.Shelf.files c.args.shelf.now) (g.S.Shelf.files c.loop-block.shelf) (g.S.Shelf.files c.scan_next.new.shelf)
          c.loop-block.listed.replicas.items c.scan_next.new.listed.replicas.items c.loop-block.listed.moved.items c.scan_next.new.listed.moved.items
          c.requires c.loop-block-test.true (at_same blocks i c.loop-block-test.true) so_far.so_far next.done;
      untold = λ none. next.untold (so_far.untold none);
      lent = λ b h. so_far.lent b (next.lent b h);
      never_falls = omega (arith, so_far.never_falls, next.cause.never_falls);
    }

pub returns-in_err-scan_next : goal.returns-in_err-scan_next
returns-in_err-scan_next g c =
    let so_far = c.loop-block.invariant in
    let blocks = c.args.blocks.now in
    let i = c.loop-block.block-index in
    let failed = err_from_is_err_and c.from_residual.result c.from_residual.ensures.1 in
    rw (failed.1, failed.2)
    (stops_all g.S.Shelf blocks i (get_or blocks i 0) c.args.shelf.now c.loop-block.shelf c.scan_next.new.shelf c.loop-block.listed c.scan_next.new.listed _ c.requires c.loop-block-test.true
    (at_same blocks i c.loop-block-test.true) so_far.so_far so_far.untold so_far.lent so_far.never_falls c.in_err-scan_next.ensures)

pub returns : goal.returns
returns g c =
    let so_far = c.loop-block.invariant in
    ends_all g.S.Shelf c.args.blocks.now c.loop-block.block-index c.args.shelf.now c.loop-block.shelf c.loop-block.listed c.loop-block-test.false so_far.so_far so_far.untold so_far.lent so_far.never_falls
