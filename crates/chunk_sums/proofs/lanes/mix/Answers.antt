use Rattle.std.proofs.Common.{◌+◌, get_or, drop, ap, subst, sym, ◌∙◌, arith}
use Rattle.chunk_sums.specs.Ahead.{joined}
use Rattle.chunk_sums.specs.Lanes.{IsMixed, carried}
use Rattle.chunk_sums.proofs.LaneLemmas.{IsMixed-more}
use Rattle.chunk_sums.proofs.lanes.mix.Goals as goal

pub returns-clause-mixed : goal.returns-clause-mixed
returns-clause-mixed g c =
    let bytes = carried g.P.Polynomial.wide_places c.args.piece.now c.args.lane.now in
    let lane = c.args.near.now in
    let at = c.args.at in
    let near = g.P.Polynomial.near_places in
    let v = c.joined_to-bytes in
    subst (λ l. IsMixed near bytes lane l (at + 16)) (sym c.put.ensures)
    (IsMixed-more near bytes lane c.args.mixed.now v.result at c.requires.before v.ensures.len (omega arith)
    (λ k below. v.ensures.value k below
    ∙ ap (λ l. joined l (drop (112 + at + k) lane) (get_or c.carried_at-bytes.result k 0)) c.near.ensures
    ∙ ap (joined near (drop (112 + at + k) lane)) (c.carried_at-bytes.ensures.value k below)))
