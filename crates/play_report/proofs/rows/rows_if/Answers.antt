-- The node runs, or nothing is read.
use Rattle.std.proofs.Common.{Bool, IfOk, sym, subst}
use Rattle.play_report.specs.Rows.{AreRowsIf}
use Rattle.play_report.proofs.RowLemmas.{all_same}
use Rattle.play_report.proofs.rows.rows_if.Goals as goal

pub returns-then-runs-clause-rows : goal.returns-then-runs-clause-rows
returns-then-runs-clause-rows g c =
    subst (λ (t : Bool). IfOk c.node_rows.result (λ rows. AreRowsIf g.F.Files t c.args.books.now rows.items)) (sym c.if-runs.true) c.node_rows.ensures.rows

pub returns-else-runs-clause-rows : goal.returns-else-runs-clause-rows
returns-else-runs-clause-rows g c = subst (λ (t : Bool). AreRowsIf g.F.Files t c.args.books.now c.new.result.items) (sym c.if-runs.false) c.new.ensures.items

pub returns-else-runs-clause-kept : goal.returns-else-runs-clause-kept
returns-else-runs-clause-kept g c = all_same g.F.Files c.args.books.now
