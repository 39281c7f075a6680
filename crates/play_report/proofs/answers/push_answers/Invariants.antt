-- What is appended, and the answers to the commands that are left, are all answers.
use Rattle.std.proofs.Common.{◌≡◌, ◌≤◌, ◌++◌, drop}
use Rattle.play_report.specs.Answers.{said_in, answer_lines}
use Rattle.play_report.proofs.answers.push_answers.Given as goal

abbrev pub invariant-loop-line : goal.invariant-loop-line
invariant-loop-line l = record {
  few : l.ordinal ≤ l.line-index;
  rest : l.out.items ++ answer_lines l.block.0 (said_in l.said) l.ordinal (drop l.line-index l.lines) ≡ l.fn.out.items ++ (answer_lines l.block.0 (said_in l.said) 0 l.lines);
}
