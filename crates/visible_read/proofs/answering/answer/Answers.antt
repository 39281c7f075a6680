-- The block is of the pool.
use Rattle.std.proofs.Common.{sym, ◌∙◌}
use Rattle.visible_read.proofs.ReadLemmas.{in-pool, refuses}
use Rattle.visible_read.proofs.answering.answer.Goals as goal

pub ask-requires : goal.ask-requires
ask-requires g c = in-pool c.args.op.now c.in-Ok.field-0 (sym c.read_event.ensures ∙ c.in-Ok.is)

pub returns-in-Err-clause-answers : goal.returns-in-Err-clause-answers
returns-in-Err-clause-answers g c =
    refuses g.F.Files g.O.LinkOut c.args.op.now c.in-Err.refusal c.args.book.now c.args.out.now c.refuse.new.out c.refuse.result (sym c.read_event.ensures ∙ c.in-Err.is) c.refuse.ensures.tells
