-- The sum of the last chunk goes on, and the sums of further chunks stand behind it.
use Rattle.std.specs.Prelude.{ℕ, ◌≡◌, ◌≤◌, ◌++◌, min, length, List, take, drop}
use Rattle.std.proofs.Common.{arith, sym, ap, ◌∙◌}
use Rattle.std.specs.Int.{w32, to_be_bytes}
use Rattle.chunk_sums.specs.Crc.{sum_of}
use Rattle.chunk_sums.specs.Chunks.{sums as sums_under}
use Rattle.replica_model.specs.Sums.{first_len, tail}
use Rattle.replica_calls.proofs.GrowthLemmas.{grown_is, tail_bytes}
use Rattle.replica_calls.proofs.growth.summed.Goals as goal

pub returns : goal.returns
returns c bytes growing =
    let r = c.args.rule in
    let more = c.args.more.now in
    let first = c.min-first.result in
    let front = c.split_at.result.0.now in
    let some : 1 ≤ r.chunk = omega (arith, c.first_len.ensures.some, c.first_len.ensures.within) in
    let least : first ≡ min (first_len r (length bytes)) (length more) =
    c.min-first.ensures ∙ ap (λ n. min n (length more)) (c.first_len.ensures.value ∙ ap (first_len r) (sym growing.all)) in
    let t = tail r bytes in
    let gone_on : c.extend.result ≡ sum_of r.kind (t ++ front) =
    c.extend.ensures.whole t (tail_bytes r bytes growing.are_bytes) (growing.last c.requires.has ∙ ap (λ k. sum_of k t) (sym c.kind.ensures))
    ∙ ap (λ k. sum_of k (t ++ front)) c.kind.ensures in
    c.in_ok-push_sums.ensures
    ∙ (ap (λ l. l ++ sums_under r c.split_at.result.1.now) (c.in_ok-extend_from_slice.ensures.items ∙ ap (λ l. l ++ c.to_be_bytes.result) c.new-sums.ensures.items ∙ c.to_be_bytes.ensures ∙ ap (to_be_bytes w32) (gone_on ∙ ap (λ l. sum_of r.kind (tail r bytes ++ l)) c.split_at.ensures.front))
    ∙ (ap (λ l. to_be_bytes w32 (sum_of r.kind (tail r bytes ++ take first more)) ++ sums_under r l) c.split_at.ensures.back
    ∙ grown_is r bytes more first c.requires.has some c.requires.some least))
