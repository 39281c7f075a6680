-- What is appended, and the lines that are left, are all lines.
use Rattle.std.proofs.Common.{◌≡◌, ◌++◌, drop}
use Rattle.std.specs.Prelude.{map}
use Rattle.play_report.specs.Reads.{client_read}
use Rattle.play_report.specs.Recoveries.{client_recovery, merged}
use Rattle.play_report.proofs.recoveries.push_asked.Given as goal

abbrev pub invariant-loop-line : goal.invariant-loop-line
invariant-loop-line g l = l.out.items ++ merged (map client_read l.reads) (map client_recovery l.recoveries) (drop l.line-index l.lines) ≡ l.fn.out.items ++ merged (map client_read l.fn.reads) (map client_recovery l.fn.recoveries) l.lines
