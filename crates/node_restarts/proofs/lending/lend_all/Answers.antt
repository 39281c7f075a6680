-- One block more is lent, or all are given back.
use Rattle.std.proofs.Common.{List, [], get_or, sym, subst, arith}
use Rattle.hd_base.specs.declared.numbers.BlockId.{BlockId}
use Rattle.replica_files.specs.declared.book_state.BookState.{BookState}
use Rattle.node_opening.proofs.ListLemmas.{element_or}
use Rattle.node_restarts.specs.Lending.{HasFound}
use Rattle.node_restarts.proofs.LendingLemmas.{next_held, found_none, found_step, found_end, fail_within, fail_out, fail_made}
use Rattle.node_restarts.proofs.lending.lend_all.Goals as goal

pub loop-block-init : goal.loop-block-init
loop-block-init g c =
    let s = g.S.Shelf in
    let d = g.S.Drawer.Files in
    let a = c.args.shelf.now in
    subst (λ (xs : List (BookState g.row.S-Drawer.Denot)). HasFound s d [] c.args.replicas.now a a xs) (sym c.new-books.ensures.items) (found_none s d c.args.replicas.now a)

pub lend_next-requires-clause-held : goal.lend_next-requires-clause-held
lend_next-requires-clause-held g c κs within =
    let s = g.S.Shelf in
    let k = c.loop-block.block-index in
    let none : BlockId = record { 0 = 0 } in
    next_held c.args.blocks.now c.args.replicas.now k (get_or c.args.blocks.now k none) (s.files c.args.shelf.now) (s.files c.loop-block.shelf) c.seen_of-seen.result c.requires.distinct
    (element_or c.args.blocks.now k none c.loop-block-test.true) c.loop-block.invariant.rest c.requires.held c.seen_of-seen.ensures

pub close_books-requires-clause-within : goal.close_books-requires-clause-within
close_books-requires-clause-within g c κs within =
    fail_within g.S.Shelf g.S.Drawer.Files c.args.blocks.now c.args.replicas.now c.loop-block.block-index c.args.shelf.now c.loop-block.shelf c.loop-block.books.items c.lend_next.new.books.items c.loop-block.invariant c.in-Err.ensures.1

pub close_books-requires-clause-lent : goal.close_books-requires-clause-lent
close_books-requires-clause-lent g c κs within =
    let k = c.loop-block.block-index in
    let none : BlockId = record { 0 = 0 } in
    fail_out g.S.Shelf g.S.Drawer.Files c.args.blocks.now c.args.replicas.now k (get_or c.args.blocks.now k none) c.args.shelf.now c.loop-block.shelf c.lend_next.new.shelf c.loop-block.books.items c.lend_next.new.books.items c.requires.distinct
    (element_or c.args.blocks.now k none c.loop-block-test.true) c.loop-block.invariant c.in-Err.ensures.0.unlent c.in-Err.ensures.1

pub returns-in-Err-clause-unmade : goal.returns-in-Err-clause-unmade
returns-in-Err-clause-unmade g c =
    let k = c.loop-block.block-index in
    let none : BlockId = record { 0 = 0 } in
    fail_made g.S.Shelf g.S.Drawer.Files c.args.blocks.now c.args.replicas.now k (get_or c.args.blocks.now k none) c.args.shelf.now c.loop-block.shelf c.lend_next.new.shelf c.close_books.new.shelf c.loop-block.books.items c.lend_next.new.books.items c.in-Err.fault
    c.loop-block.invariant c.in-Err.ensures.0 c.in-Err.ensures.1 c.close_books.ensures.closes

pub returns-in-Err-clause-never_falls : goal.returns-in-Err-clause-never_falls
returns-in-Err-clause-never_falls g c = (returns-in-Err-clause-unmade g c).never_falls

pub loop-block-preserved : goal.loop-block-preserved
loop-block-preserved g c =
    let k = c.loop-block.block-index in
    let none : BlockId = record { 0 = 0 } in
    found_step g.S.Shelf g.S.Drawer.Files c.args.blocks.now c.args.replicas.now k (get_or c.args.blocks.now k none) c.seen_of-seen.result c.args.shelf.now c.loop-block.shelf c.lend_next.new.shelf c.loop-block.books.items c.lend_next.new.books.items c.requires.distinct
    (element_or c.args.blocks.now k none c.loop-block-test.true) c.seen_of-seen.ensures c.loop-block.invariant c.in_default.ensures

pub returns-clause-made : goal.returns-clause-made
returns-clause-made g c = found_end g.S.Shelf g.S.Drawer.Files c.args.blocks.now c.args.replicas.now c.loop-block.block-index c.args.shelf.now c.loop-block.shelf c.loop-block.books.items c.loop-block-test.false c.loop-block.invariant

pub returns-clause-never_falls : goal.returns-clause-never_falls
returns-clause-never_falls g c = omega (arith, c.loop-block.invariant.faults)
