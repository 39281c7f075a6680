use Rattle.std.proofs.Common.{arith}
use Rattle.chunk_sums.proofs.LaneLemmas.{JoinedSoFar-read, JoinedSoFar-all}
use Rattle.chunk_sums.proofs.lanes.joined_all.Goals as goal

pub loop-place-preserved : goal.loop-place-preserved
loop-place-preserved c =
    let v = c.bytes_at-joined in
    JoinedSoFar-read _ _ _ _ v.result _ _ c.from.result c.loop-place.invariant (omega arith) c.from.ensures v.ensures.len v.ensures.value

pub returns-clause-value : goal.returns-clause-value
returns-clause-value c = JoinedSoFar-all _ _ _ _ _ _ c.loop-place.invariant (omega arith)
