-- The answer is that of the call as a value.
use Rattle.std.proofs.Common.{rules}
use Rattle.name_core.specs.declared.calls.OfficeAnswer.TheVariants as answer
use Rattle.name_core.specs.Offices.{office_case, complete_case}
use Rattle.name_core.proofs.BookLemmas.{refusal, nothing}
use Rattle.name_core.proofs.book.OfficeBook.complete.Goals as goal

pub returns-in_err-take-clause-answer : goal.returns-in_err-take-clause-answer
unfolding office_case
returns-in_err-take-clause-answer c =
    refusal (λ _. answer.Nothing) (complete_case c.args.self.now.office c.args.block c.args.stamp c.args.length) c.from_residual.result c.in_err-take.field-0.0 (search rules) c.in_err-take.ensures.answer

pub returns-clause-answer : goal.returns-clause-answer
unfolding office_case
returns-clause-answer c =
    nothing (complete_case c.args.self.now.office c.args.block c.args.stamp c.args.length) c.in_ok-take.field-0 (c.in_ok-take.ensures.answer)
