-- The answer is that of the call as a value.
use Rattle.std.proofs.Common.{sym, rules}
use Rattle.name_core.specs.declared.calls.OfficeAnswer.TheVariants as answer
use Rattle.name_core.specs.Offices.{office_case, begin_case}
use Rattle.name_core.proofs.BookLemmas.{refusal, begun}
use Rattle.name_core.proofs.book.OfficeBook.begin_recovery.Goals as goal

pub returns-in_err-begun-clause-answer : goal.returns-in_err-begun-clause-answer
unfolding office_case
returns-in_err-begun-clause-answer c =
    refusal answer.Begun (begin_case c.args.self.now.office c.args.block) c.from_residual.result c.in_err-begun.field-0.0 (search rules) c.in_err-begun.ensures.answer

pub returns-clause-answer : goal.returns-clause-answer
unfolding office_case
returns-clause-answer c =
    begun (begin_case c.args.self.now.office c.args.block) c.in-Begun.begun (rw (sym c.in-Begun.is) c.in_ok-begun.ensures.answer)
