use Rattle.std.proofs.Common.{◌+◌, ◌-◌, length, get_or, drop, ap, subst, sym, ◌∙◌, arith}
use Rattle.chunk_sums.specs.Ahead.{joined}
use Rattle.chunk_sums.specs.Lanes.{IsSpread, started}
use Rattle.chunk_sums.proofs.LaneLemmas.{IsMoved-more}
use Rattle.chunk_sums.proofs.lanes.spread_front.Goals as goal

pub returns : goal.returns
returns g c =
    let piece = c.args.piece.now in
    let lane = c.args.lane.now in
    let at = c.args.at in
    let wide = g.P.Polynomial.wide_places in
    let v = c.joined_to-bytes in
    subst (λ l. IsSpread wide piece l (at + 16)) (sym c.put.ensures)
    (IsMoved-more wide 224 (length piece - 224) (started piece) lane v.result at g.met.P.Polynomial.wide_span.inside v.ensures.len (omega arith) c.requires.before (omega arith)
    (λ k below. v.ensures.value k below
    ∙ ap (λ l. joined l (drop (at + k) lane) (get_or c.started_at.result k 0)) c.wide.ensures
    ∙ ap (joined wide (drop (at + k) lane)) (c.started_at.ensures.value k below)))
