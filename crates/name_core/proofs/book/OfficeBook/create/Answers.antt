-- The answer is that of the call as a value.
use Rattle.std.proofs.Common.{sym, rules}
use Rattle.name_core.specs.declared.calls.OfficeAnswer.TheVariants as answer
use Rattle.name_core.specs.Offices.{office_case, create_case}
use Rattle.name_core.proofs.BookLemmas.{refusal, stamp}
use Rattle.name_core.proofs.book.OfficeBook.create.Goals as goal

pub returns-in_err-stamp-clause-answer : goal.returns-in_err-stamp-clause-answer
unfolding office_case
returns-in_err-stamp-clause-answer c =
    refusal answer.Stamp (create_case c.args.self.now.office c.args.block c.args.members.now) c.from_residual.result c.in_err-stamp.field-0.0 (search rules) (rw (sym c.duplicate.ensures) c.in_err-stamp.ensures.answer)

pub returns-clause-answer : goal.returns-clause-answer
unfolding office_case
returns-clause-answer c =
    stamp (create_case c.args.self.now.office c.args.block c.args.members.now) c.in-Stamp.stamp (rw (sym c.in-Stamp.is, sym c.duplicate.ensures) c.in_ok-stamp.ensures.answer)
