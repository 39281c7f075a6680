-- A block that is known is refused.
use Rattle.std.proofs.Common.{rules, inr}
use Rattle.name_core.proofs.office.Office.create.Goals as goal

pub returns-then-contains_key-clause-answer : goal.returns-then-contains_key-clause-answer
returns-then-contains_key-clause-answer c = inr (search rules)
