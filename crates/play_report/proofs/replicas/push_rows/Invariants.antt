-- What is appended, and the lines of the rows that are left, are all lines.
use Rattle.std.proofs.Common.{◌≡◌, ◌++◌, drop}
use Rattle.play_report.specs.Replicas.{row_lines}
use Rattle.play_report.proofs.replicas.push_rows.Given as goal

abbrev pub invariant-loop-place : goal.invariant-loop-place
invariant-loop-place l = l.out.items ++ row_lines l.node.0 (drop l.place l.blocks) (drop l.place l.rows) ≡ l.fn.out.items ++ row_lines l.node.0 l.blocks l.rows
