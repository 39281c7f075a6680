use Rattle.std.proofs.Common.{◌+◌, subst, sym, arith}
use Rattle.chunk_sums.proofs.LaneLemmas.{JoinedSoFar, JoinedSoFar-read, JoinedSoFar-skip, JoinedSoFar-all}
use Rattle.chunk_sums.proofs.lanes.joined_to.Goals.{then-from-first+then-first-to, else-from-first, else-from-first-via-then-from-first+else-first-to, else-from-first-via-else-from-first}
use Rattle.chunk_sums.proofs.lanes.joined_to.Goals as goal

pub loop-place-preserved : goal.loop-place-preserved
loop-place-preserved c =
    let places = c.args.places.now in
    let lane = c.args.lane.now in
    let at = c.args.at in
    let next = c.loop-place.place-index + 1 in
    elim c.if-from-first.branch [
      | then-from-first+then-first-to w ↦
          let v = w.bytes_at-joined in
          subst (λ l. JoinedSoFar places lane c.args.bytes l at next) (sym w.joined-is)
          (JoinedSoFar-read _ _ _ _ v.result _ _ c.from.result c.loop-place.invariant (omega arith) c.from.ensures v.ensures.len v.ensures.value)
      | else-from-first w ↦
          subst (λ l. JoinedSoFar places lane c.args.bytes l at next) (sym w.joined-is)
          (JoinedSoFar-skip _ _ _ _ _ _ c.from.result c.loop-place.invariant (omega arith) c.from.ensures
          (λ k below. elim w.else-from-first.branch [
            | else-from-first-via-then-from-first+else-first-to u ↦ c.requires.behind (at + c.from.result + k) (omega arith)
            | else-from-first-via-else-from-first u ↦ c.requires.before (at + c.from.result + k) (omega arith)
          ]))
    ]

pub returns-clause-value : goal.returns-clause-value
returns-clause-value c = JoinedSoFar-all _ _ _ _ _ _ c.loop-place.invariant (omega arith)
