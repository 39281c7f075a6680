use Rattle.std.proofs.Common.{◌+◌, get_or, drop, ap, ◌∙◌, arith}
use Rattle.chunk_sums.specs.Ahead.{joined}
use Rattle.chunk_sums.proofs.LaneLemmas.{carried-value}
use Rattle.chunk_sums.proofs.lanes.carried_at.Goals as goal

pub returns-clause-value : goal.returns-clause-value
returns-clause-value g c = λ k below.
    let window = c.split_at.result.1.now in
    let b = get_or c.bytes_at.result k 0 in
    carried-value g.P.Polynomial.wide_places c.args.piece.now c.args.lane.now window c.args.at _ k b _ c.requires.piece_len c.requires.within below (omega arith)
    c.split_at.ensures.back (c.bytes_at.ensures.value k below)
    (c.joined_to.ensures.value k below ∙ ap (λ l. joined l (drop (c.args.at + k) window) b) c.wide.ensures)
