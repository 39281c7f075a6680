-- One block more is lent, or all are given back.
use Rattle.std.proofs.Common.{List, [], get_or, sym, subst}
use Rattle.hd_base.specs.declared.numbers.BlockId.{BlockId}
use Rattle.play_nodes.specs.ReplicaFiles.BookState.{BookState}
use Rattle.node_opening.specs.Lending.{HasBooks}
use Rattle.node_opening.proofs.ListLemmas.{element_or}
use Rattle.node_opening.proofs.LendLemmas.{books_none, books_step, books_end, fail_within, fail_out, fail_back}
use Rattle.node_opening.proofs.lending.lend_books.Goals as goal

pub loop-block-init : goal.loop-block-init
loop-block-init g c =
    let s = g.S.Shelf in
    let d = g.S.Drawer.Files in
    let a = c.args.shelf.now in
    subst (λ (xs : List (BookState g.row.S-Drawer.Denot)). HasBooks s d [] a a xs) (sym c.new-books.ensures.items) (books_none s d a)

pub give_back_books-requires-clause-within : goal.give_back_books-requires-clause-within
give_back_books-requires-clause-within g c κs within =
    let k = c.loop-block.block-index in
    let none : BlockId = record { 0 = 0 } in
    fail_within g.S.Shelf g.S.Drawer.Files c.args.blocks.now k c.args.shelf.now c.loop-block.shelf c.lend_next.new.shelf (get_or c.args.blocks.now k none) c.loop-block.books.items c.lend_next.new.books.items c.loop-block.invariant c.in-Err.ensures

pub give_back_books-requires-clause-lent : goal.give_back_books-requires-clause-lent
give_back_books-requires-clause-lent g c κs within =
    let k = c.loop-block.block-index in
    let none : BlockId = record { 0 = 0 } in
    fail_out g.S.Shelf g.S.Drawer.Files c.args.blocks.now k (get_or c.args.blocks.now k none) c.args.shelf.now c.loop-block.shelf c.lend_next.new.shelf c.loop-block.books.items c.lend_next.new.books.items c.requires.distinct
    (element_or c.args.blocks.now k none c.loop-block-test.true) c.loop-block.invariant c.in-Err.ensures

pub returns-in-Err : goal.returns-in-Err
returns-in-Err g c =
    let k = c.loop-block.block-index in
    let none : BlockId = record { 0 = 0 } in
    fail_back g.S.Shelf g.S.Drawer.Files c.args.blocks.now k (get_or c.args.blocks.now k none) c.args.shelf.now c.loop-block.shelf c.lend_next.new.shelf c.give_back_books.new.shelf c.loop-block.books.items c.lend_next.new.books.items
    c.requires.empty c.loop-block.invariant c.in-Err.ensures c.give_back_books.ensures

pub loop-block-preserved : goal.loop-block-preserved
loop-block-preserved g c =
    let k = c.loop-block.block-index in
    let none : BlockId = record { 0 = 0 } in
    books_step g.S.Shelf g.S.Drawer.Files c.args.blocks.now k (get_or c.args.blocks.now k none) c.args.shelf.now c.loop-block.shelf c.lend_next.new.shelf c.loop-block.books.items c.lend_next.new.books.items
    (element_or c.args.blocks.now k none c.loop-block-test.true) c.requires.empty c.loop-block.invariant c.in_default.ensures

pub returns : goal.returns
returns g c = books_end g.S.Shelf g.S.Drawer.Files c.args.blocks.now c.loop-block.block-index c.args.shelf.now c.loop-block.shelf c.loop-block.books.items c.loop-block-test.false c.loop-block.invariant
