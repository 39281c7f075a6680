-- The numbers have their widths.
use Rattle.std.proofs.Common.{arith}
use Rattle.std.proofs.lemmas.Result.{on_ok_weaker}
use Rattle.op_headers.proofs.AnswerLemmas.{answer_fits}
use Rattle.op_headers.proofs.answers.push_message.Goals as goal

pub returns-clause-fits : goal.returns-clause-fits
returns-clause-fits c = on_ok_weaker c.put_info.result (λ i listed. answer_fits c.args.answer.now listed (omega arith) i) c.put_info.ensures.fits
