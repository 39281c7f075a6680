-- The answer is that of the call as a value.
use Rattle.std.proofs.Common.{sym, rules}
use Rattle.name_core.specs.declared.calls.OfficeAnswer.TheVariants as answer
use Rattle.name_core.specs.Offices.{office_case, append_case}
use Rattle.name_core.proofs.BookLemmas.{refusal, reopened}
use Rattle.name_core.proofs.book.OfficeBook.append.Goals as goal

pub returns-in_err-reopened-clause-answer : goal.returns-in_err-reopened-clause-answer
unfolding office_case
returns-in_err-reopened-clause-answer c =
    refusal answer.Reopened (append_case c.args.self.now.office c.args.block) c.from_residual.result c.in_err-reopened.field-0.0 (search rules) c.in_err-reopened.ensures.answer

pub returns-clause-answer : goal.returns-clause-answer
unfolding office_case
returns-clause-answer c =
    reopened (append_case c.args.self.now.office c.args.block) c.in-Reopened.reopened (rw (sym c.in-Reopened.is) c.in_ok-reopened.ensures.answer)
