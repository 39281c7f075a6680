-- The books so far have rows.
use Rattle.play_report.proofs.RowLemmas.{BooksSoFar}
use Rattle.play_report.proofs.rows.node_rows.Given as goal

abbrev pub invariant-loop-place : goal.invariant-loop-place
invariant-loop-place g l = BooksSoFar g.F.Files l.place l.initial.books l.books l.rows.items
