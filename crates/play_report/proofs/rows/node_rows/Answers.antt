-- One row more, or a fault with its cause.
use Rattle.std.proofs.Common.{◌≡◌, ◌<◌, Err, get_or, length, ap, ◌∙◌, arith}
use Rattle.std.specs.Prelude.{slice_set}
use Rattle.std.proofs.lemmas.Result.{err_from_is_err_and}
use Rattle.play_scripts.proofs.NodeOpening.ListLemmas.{if_err, element_or}
use Rattle.replica_files.specs.Summing.{LeavesBook}
use Rattle.play_report.specs.Rows.{IsRow, IsBooksFault}
use Rattle.play_report.proofs.RowLemmas.{so_far_none, so_far_left, so_far_end, leaves_same, books_next, books_end, books_failed}
use Rattle.play_report.proofs.rows.node_rows.Goals as goal

pub loop-place-init : goal.loop-place-init
loop-place-init g c = so_far_none (λ _. IsRow g.F.Files) (LeavesBook g.F.Files) c.args.books.now c.new-rows.result.items c.new-rows.ensures.items

pub returns-in_err-add_row-clause-kept : goal.returns-in_err-add_row-clause-kept
returns-in_err-add_row-clause-kept g c =
    let f = g.F.Files in
    let xs = c.loop-place.books in
    let n = c.loop-place.place in
    let within : n < length xs = omega (arith, c.loop-place-test.true, c.loop-place.auto.books) in
    let a = get_or xs n c.index-books-place.result in
    so_far_left (λ _. IsRow f) (LeavesBook f) n c.args.books.now xs c.loop-place.rows.items a c.add_row.new.book (leaves_same f) c.loop-place.invariant (element_or xs n c.index-books-place.result within) c.add_row.ensures.kept

pub returns-in_err-add_row-clause-cause : goal.returns-in_err-add_row-clause-cause
returns-in_err-add_row-clause-cause g c =
    let f = g.F.Files in
    let xs = c.loop-place.books in
    let n = c.loop-place.place in
    let within : n < length xs = omega (arith, c.loop-place-test.true, c.loop-place.auto.books) in
    let a = get_or xs n c.index-books-place.result in
    let why = c.in_err-add_row.field-0.0 in
    let e = err_from_is_err_and c.from_residual.result c.from_residual.ensures.1 in
    if_err c.from_residual.result why (IsBooksFault f c.args.node c.args.books.now (slice_set xs n c.add_row.new.book)) (e.1 ∙ ap Err e.2)
    (books_failed f c.args.node n c.args.books.now xs c.loop-place.rows.items a c.add_row.new.book why c.loop-place.invariant (element_or xs n c.index-books-place.result within) c.in_err-add_row.ensures.cause)

pub loop-place-preserved : goal.loop-place-preserved
loop-place-preserved g c =
    let f = g.F.Files in
    let xs = c.loop-place.books in
    let n = c.loop-place.place in
    let within : n < length xs = omega (arith, c.loop-place-test.true, c.loop-place.auto.books) in
    let a = get_or xs n c.index-books-place.result in
    books_next f n c.args.books.now xs c.loop-place.rows.items c.add_row.new.rows.items a c.add_row.new.book c.loop-place.invariant (element_or xs n c.index-books-place.result within) c.in_ok-add_row.ensures.row c.add_row.ensures.kept

pub returns-clause-rows : goal.returns-clause-rows
returns-clause-rows g c =
    let whole : c.loop-place.place ≡ length c.args.books.now = omega (arith, c.loop-place-test.false, c.loop-place.auto.place-end) in
    books_end g.F.Files c.loop-place.place c.args.books.now c.loop-place.books c.loop-place.rows.items c.loop-place.invariant whole

pub returns-clause-kept : goal.returns-clause-kept
returns-clause-kept g c =
    let f = g.F.Files in
    so_far_end (λ _. IsRow f) (LeavesBook f) c.loop-place.place c.args.books.now c.loop-place.books c.loop-place.rows.items (leaves_same f) c.loop-place.invariant
