-- One row more, or a fault with its cause.
use Rattle.std.proofs.Common.{List, ◌∷◌, [], ◌++◌, Err, ap, ◌∙◌}
use Rattle.std.proofs.lemmas.Result.{err_from_is_err_and}
use Rattle.play_scripts.proofs.NodeOpening.ListLemmas.{if_err}
use Rattle.play_report.specs.declared.faults.ReportFault.TheVariants as fault
use Rattle.play_report.specs.declared.rows.Row.{Row}
use Rattle.play_report.specs.Rows.{IsBookFault}
use Rattle.play_report.proofs.RowLemmas.{leaves_same, fault_so}
use Rattle.play_report.proofs.rows.add_row.Goals as goal

pub returns-in_err-reserve-clause-kept : goal.returns-in_err-reserve-clause-kept
returns-in_err-reserve-clause-kept g c = leaves_same g.F.Files c.args.book.now

pub returns-in_err-reserve-clause-cause : goal.returns-in_err-reserve-clause-cause
returns-in_err-reserve-clause-cause g c =
    let f = g.F.Files in
    let e = err_from_is_err_and c.from_residual.result c.from_residual.ensures.1 in
    if_err c.from_residual.result fault.Memory (IsBookFault c.args.node (f.faults c.args.book.now.drawer) (f.faults c.args.book.now.drawer)) (e.1 ∙ ap Err e.2) tt

pub returns-in-Ok-clause-row : goal.returns-in-Ok-clause-row
returns-in-Ok-clause-row g c = record {
  row = c.in-Ok.row;
  is = c.in-Ok.ensures.row;
  behind = c.push_reserved.ensures.items ∙ ap (λ (rs : List Row). rs ++ c.in-Ok.row ∷ []) c.in_ok-reserve.ensures.items;
}

pub returns-in-Err-clause-cause : goal.returns-in-Err-clause-cause
returns-in-Err-clause-cause g c =
    let f = g.F.Files in
    fault_so c.args.node (f.faults c.args.book.now.drawer) (f.faults c.row_of.new.book.drawer) c.in-Err.fault c.fault_at.result c.fault_at.ensures c.in-Err.ensures.cause
