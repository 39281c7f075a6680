-- The line gives the block a command, or it doesn't.
use Rattle.std.proofs.Common.{◌++◌, true, false, sym, ap, ◌∙◌}
use Rattle.std.specs.Option.{option_copied}
use Rattle.play_report.specs.Answers.{answer_line}
use Rattle.play_report.proofs.AnswerLemmas.{given_line, given_next}
use Rattle.play_report.proofs.AppendLemmas.{none_appended}
use Rattle.play_report.proofs.answers.push_line.Goals as goal

pub returns-then-not-is_given-clause-next : goal.returns-then-not-is_given-clause-next
returns-then-not-is_given-clause-next c = sym (given_next c.args.block.0 c.args.ordinal c.args.line.now false (sym c.is_given.ensures ∙ c.if-not-is_given.true))

pub returns-then-not-is_given-clause-lines : goal.returns-then-not-is_given-clause-lines
returns-then-not-is_given-clause-lines c =
    let old = c.args.out.now.items in
    none_appended old ∙ ap (λ xs. old ++ xs) (sym (given_line c.args.block.0 c.args.ordinal c.args.line.now (option_copied c.args.told) false (sym c.is_given.ensures ∙ c.if-not-is_given.true)))

pub returns-clause-next : goal.returns-clause-next
returns-clause-next c = sym (given_next c.args.block.0 c.args.ordinal c.args.line.now true (sym c.is_given.ensures ∙ c.if-not-is_given.false))

pub returns-clause-lines : goal.returns-clause-lines
returns-clause-lines c =
    let old = c.args.out.now.items in
    c.in_ok-push_answer.ensures ∙ (ap (λ a. old ++ answer_line c.args.block.0 c.args.ordinal a) c.answer_of.ensures ∙
    ap (λ xs. old ++ xs) (sym (given_line c.args.block.0 c.args.ordinal c.args.line.now (option_copied c.args.told) true (sym c.is_given.ensures ∙ c.if-not-is_given.false))))
