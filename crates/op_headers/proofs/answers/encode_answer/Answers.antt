-- What was written is read again.
use Rattle.proto_fields.proofs.WrittenLemmas.{kept_ok, kept_fact}
use Rattle.op_headers.proofs.AnswerLemmas.{answer_written}
use Rattle.op_headers.proofs.answers.encode_answer.Goals as goal

pub returns-clause-again : goal.returns-clause-again
returns-clause-again c =
    let done = c.push_answer-done in
    let old = c.args.out.now.items in
    let ok = kept_ok c.cut_back.result done.result old done.new.out.items c.cut_back.new.out.items _ c.cut_back.ensures.same done.ensures.ok c.cut_back.ensures.ok in
    answer_written c.cut_back.result c.args.answer.now old c.cut_back.new.out.items ok (kept_fact c.cut_back.result done.result _ c.cut_back.ensures.same done.ensures.fits) c.requires.listed c.requires.within_limit
