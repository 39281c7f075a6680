-- The answer tells of no sums.
use Rattle.pipe_turns.proofs.AnswerLemmas.{plain_response}
use Rattle.pipe_turns.proofs.acting.answer_bytes.Goals as goal

pub sized_text-requires : goal.sized_text-requires
sized_text-requires c = rw c.in_ok-response.ensures (plain_response c.args.op.now c.in_ok-duplicate.field-0)
