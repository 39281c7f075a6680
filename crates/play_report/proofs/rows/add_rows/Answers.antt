-- The rows of one node more, or a fault with its cause.
use Rattle.std.proofs.Common.{◌≡◌, Err, length, ap, ◌∙◌, arith}
use Rattle.std.proofs.lemmas.Result.{err_from_is_err_and}
use Rattle.play_scripts.proofs.NodeOpening.ListLemmas.{if_err}
use Rattle.play_report.specs.declared.faults.ReportFault.TheVariants as fault
use Rattle.play_report.specs.Rows.{IsBooksFault}
use Rattle.play_report.proofs.RowLemmas.{books_same, rewritten, left_as, fault_as, rows_added}
use Rattle.play_report.proofs.rows.add_rows.Goals as goal

pub returns-in_err-reserve-clause-kept : goal.returns-in_err-reserve-clause-kept
returns-in_err-reserve-clause-kept g c = books_same g.F.Files c.args.books.now

pub returns-in_err-reserve-clause-cause : goal.returns-in_err-reserve-clause-cause
returns-in_err-reserve-clause-cause g c =
    let xs = c.args.books.now.books.items in
    let e = err_from_is_err_and c.from_residual.result c.from_residual.ensures.1 in
    if_err c.from_residual.result fault.Memory (IsBooksFault g.F.Files c.args.node xs xs) (e.1 ∙ ap Err e.2) tt

pub returns-in_err-rows-clause-kept : goal.returns-in_err-rows-clause-kept
returns-in_err-rows-clause-kept g c =
    let v = c.args.books.now.books in
    let is : v.len ≡ length v.items = omega (arith, v.ok.0) in
    left_as g.F.Files v.len c.as_mut_slice.result.now v.items c.rows_if.new.books c.as_mut_slice.ensures.value is c.rows_if.ensures.kept

pub returns-in_err-rows-clause-cause : goal.returns-in_err-rows-clause-cause
returns-in_err-rows-clause-cause g c =
    let v = c.args.books.now.books in
    let is : v.len ≡ length v.items = omega (arith, v.ok.0) in
    let why = c.in_err-rows.field-0.0 in
    let e = err_from_is_err_and c.from_residual-in_err-rows.result c.from_residual-in_err-rows.ensures.1 in
    if_err c.from_residual-in_err-rows.result why (IsBooksFault g.F.Files c.args.node v.items (rewritten v.len v.items c.rows_if.new.books)) (e.1 ∙ ap Err e.2)
    (fault_as g.F.Files c.args.node v.len c.as_mut_slice.result.now v.items c.rows_if.new.books why c.as_mut_slice.ensures.value is c.rows_if.ensures.kept c.in_err-rows.ensures.cause)

pub returns-clause-rows : goal.returns-clause-rows
returns-clause-rows g c =
    rows_added g.F.Files c.args.runs c.as_mut_slice.result.now c.args.books.now.books.items c.in_ok-rows.rows c.args.all.now.items c.reserve.new.self.items c.push_reserved.new.self.items c.as_mut_slice.ensures.value c.in_ok-rows.ensures.rows
    c.in_ok-reserve.ensures.items c.push_reserved.ensures.items

pub returns-clause-kept : goal.returns-clause-kept
returns-clause-kept g c =
    let v = c.args.books.now.books in
    let is : v.len ≡ length v.items = omega (arith, v.ok.0) in
    left_as g.F.Files v.len c.as_mut_slice.result.now v.items c.rows_if.new.books c.as_mut_slice.ensures.value is c.rows_if.ensures.kept
