-- The last four bytes are the sum of the last chunk.
use Rattle.std.specs.Prelude.{ℕ, ◌≡◌, ◌≤◌, ◌<◌, ◌%◌, length}
use Rattle.std.proofs.Common.{arith, sym, ap, ◌∙◌}
use Rattle.std.proofs.Math.Nat.{zero-mod}
use Rattle.chunk_sums.specs.Chunks.{sums as sums_under}
use Rattle.replica_calls.proofs.GrowthLemmas.{whole_sum, last_number, no_sums}
use Rattle.replica_calls.proofs.growth.last_sum_in.Goals as goal

pub returns-in-Some : goal.returns-in-Some
returns-in-Some c bytes len is h =
    let r = c.args.rule in
    let chunk : c.from-chunk.result ≡ r.chunk = c.from-chunk.ensures ∙ c.chunk.ensures.value in
    let short : 0 < length bytes % r.chunk = rw (len, sym chunk) c.if-len-chunk-gt0.true in
    let some : 1 ≤ r.chunk = omega (arith, c.chunk.ensures.value, c.chunk.ensures.in_range.least) in
    last_number r bytes c.in-Some.last.now _ h some short (rw is at c.in-Some.ensures.cases.1.same) c.from_be_bytes.ensures

pub returns-in_default-2 : goal.returns-in_default-2
returns-in_default-2 c bytes len is h =
    let r = c.args.rule in
    let some : 1 ≤ r.chunk = omega (arith, c.chunk.ensures.value, c.chunk.ensures.in_range.least) in
    let few : length (sums_under r bytes) < 4 = rw (sym is) (rw c.in_default.is at c.last_chunk.ensures.cases) in
    let none : length bytes ≡ 0 = no_sums r bytes h some few in
    whole_sum r bytes (ap (λ n. n % r.chunk) none ∙ zero-mod r.chunk) h
