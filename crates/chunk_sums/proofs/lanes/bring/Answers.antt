use Rattle.std.proofs.Common.{◌+◌, get_or, drop, ap, subst, sym, ◌∙◌, arith}
use Rattle.chunk_sums.specs.Ahead.{joined}
use Rattle.chunk_sums.specs.Lanes.{IsMoved, carried}
use Rattle.chunk_sums.proofs.LaneLemmas.{IsMoved-more}
use Rattle.chunk_sums.proofs.lanes.bring.Goals as goal

pub returns : goal.returns
returns g c =
    let bytes = carried g.P.Polynomial.wide_places c.args.piece.now c.args.lane.now in
    let lane = c.args.near.now in
    let at = c.args.at in
    let near = g.P.Polynomial.near_places in
    let v = c.joined_to-bytes in
    subst (λ l. IsMoved near 112 112 bytes l (at + 16)) (sym c.put.ensures)
    (IsMoved-more near 112 112 bytes lane v.result at g.met.P.Polynomial.near_span.inside v.ensures.len (omega arith) c.requires.before (omega arith)
    (λ k below. v.ensures.value k below
    ∙ ap (λ l. joined l (drop (at + k) lane) (get_or c.carried_at-bytes.result k 0)) c.near.ensures
    ∙ ap (joined near (drop (at + k) lane)) (c.carried_at-bytes.ensures.value k below)))
