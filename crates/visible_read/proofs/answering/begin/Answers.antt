-- A read that is begun has its first packet next.
use Rattle.visible_read.proofs.ReadLemmas.{begun-next}
use Rattle.visible_read.proofs.answering.begin.Goals as goal

pub returns-clause-sound : goal.returns-clause-sound
returns-clause-sound c = rw c.begin.ensures (begun-next c.args.op.now c.in-Some.rule c.args.visible (rw c.chunk-chunk.ensures.value at c.chunk-chunk.ensures.in_range))
