-- The lines so far are printed.
use Rattle.std.proofs.Common.{◌≡◌, take}
use Rattle.play_report.specs.Answers.{lines_text}
use Rattle.play_report.proofs.report.report_text.Given as goal

abbrev pub invariant-loop-line : goal.invariant-loop-line
invariant-loop-line l = l.text.items ≡ lines_text (take l.line-index l.report)
