use Rattle.std.proofs.Common.{◌≡◌, ◌+◌, ◌*◌, drop, take, get_or, ap, ◌∙◌, arith}
use Rattle.std.proofs.lemmas.List.{drop-drop}
use Rattle.chunk_sums.proofs.ChunkLemmas.{four_same}
use Rattle.chunk_sums.proofs.LaneLemmas.{lane-sum}
use Rattle.chunk_sums.proofs.four.four_sums.Goals as goal

pub returns-clause-sums : goal.returns-clause-sums
returns-clause-sums g c =
    let size = c.args.size in
    let body = c.args.body.now in
    let twice : size + size ≡ 2 * size = omega arith in
    let thrice : 2 * size + size ≡ 3 * size = omega arith in
    let second : c.split_at-2.result.1.now ≡ drop (2 * size) body =
    c.split_at-2.ensures.back ∙ ap (drop size) c.split_at.ensures.back ∙ drop-drop size size body ∙ ap (λ n. drop n body) twice in
    let third : c.split_at-3.result.1.now ≡ drop (3 * size) body =
    c.split_at-3.ensures.back ∙ ap (drop size) second ∙ drop-drop size (2 * size) body ∙ ap (λ n. drop n body) thrice in
    let registers = c.four_registers.ensures in
    let mixed = c.mix_last.ensures.mixed in
    let sound = c.mix_last.ensures.sound in
    let lane = lane-sum g.P.Polynomial.reflected g.P.Polynomial.wide_places g.P.Polynomial.near_places g.met.P.Polynomial.wide_span g.met.P.Polynomial.near_span in
    four_same
    (lane _ _ _ _ _ _ _ mixed.0 sound.0 (ap (λ l. get_or l 0 0) registers) c.split_at.ensures.front)
    (lane _ _ _ _ _ _ _ mixed.1 sound.1 (ap (λ l. get_or l 1 0) registers) (c.split_at-2.ensures.front ∙ ap (take size) c.split_at.ensures.back))
    (lane _ _ _ _ _ _ _ mixed.2 sound.2 (ap (λ l. get_or l 2 0) registers) (c.split_at-3.ensures.front ∙ ap (take size) second))
    (lane _ _ _ _ _ _ _ mixed.3 sound.3 (ap (λ l. get_or l 3 0) registers) (c.split_at-4.ensures.front ∙ ap (take size) third))
