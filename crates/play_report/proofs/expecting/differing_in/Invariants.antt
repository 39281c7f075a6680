-- No line so far differs.
use Rattle.std.proofs.Common.{◌≡◌, drop}
use Rattle.play_report.specs.Expecting.{found_in, differing_in}
use Rattle.play_report.proofs.expecting.differing_in.Given as goal

abbrev pub invariant-loop-line : goal.invariant-loop-line
invariant-loop-line g l = differing_in (found_in l.count l.running l.nodes) (drop l.line-index l.lines) ≡ differing_in (found_in l.count l.running l.nodes) l.lines
