use Rattle.std.proofs.Common.{◌≡◌, ◌<◌, ◌+◌, ◌-◌, length, get_or, drop, ap, subst, sym, ◌∙◌, arith}
use Rattle.chunk_sums.specs.Ahead.{joined}
use Rattle.chunk_sums.specs.Lanes.{IsSpread, started}
use Rattle.chunk_sums.proofs.LaneLemmas.{IsMoved-more, place-within, started-later}
use Rattle.chunk_sums.proofs.lanes.spread.Goals as goal

pub joined_all-bytes-requires-clause-room : goal.joined_all-bytes-requires-clause-room
joined_all-bytes-requires-clause-room g c = λ k.
    let below : get_or g.P.Polynomial.wide_places k 0 < 209 = place-within g.P.Polynomial.wide_places 209 k (omega arith) g.met.P.Polynomial.wide_span.inside in
    let place : get_or c.wide.result.now k 0 ≡ get_or g.P.Polynomial.wide_places k 0 = ap (λ l. get_or l k 0) c.wide.ensures in
    omega (arith, c.requires.within, c.requires.room)

pub returns : goal.returns
returns g c =
    let piece = c.args.piece.now in
    let lane = c.args.lane.now in
    let at = c.args.at in
    let wide = g.P.Polynomial.wide_places in
    let v = c.joined_all-bytes in
    subst (λ l. IsSpread wide piece l (at + 16)) (sym c.put.ensures)
    (IsMoved-more wide 224 (length piece - 224) (started piece) lane v.result at g.met.P.Polynomial.wide_span.inside v.ensures.len (omega arith) c.requires.before (omega arith)
    (λ k below. v.ensures.value k below
    ∙ ap (λ l. joined l (drop (at + k) lane) (get_or c.bytes_at.result k 0)) c.wide.ensures
    ∙ ap (joined wide (drop (at + k) lane)) (c.bytes_at.ensures.value k below ∙ sym (started-later piece (at + k) (omega arith) (omega arith)))))
