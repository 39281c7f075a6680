-- What was read is the bytes in the last chunk.
use Rattle.std.specs.Prelude.{ℕ, ◌≡◌, ◌≤◌, ◌-◌, ◌%◌, length, take, drop}
use Rattle.std.proofs.Common.{arith, sym, ap, ◌∙◌}
use Rattle.std.proofs.lemmas.List.{length-take-le}
use Rattle.std.proofs.Math.Nat.{mod-lt}
use Rattle.chunk_sums.specs.Crc.{sum_of}
use Rattle.replica_calls.proofs.GrowthLemmas.{tail_part, read_is}
use Rattle.replica_calls.proofs.reading.sum_to.Goals as goal

pub returns-clause-value : goal.returns-clause-value
returns-clause-value g c m bytes is_m is_b within h =
    let r = c.args.rule in
    let got = take c.in_ok-count.count c.read_at.new.into in
    let past = c.args.len % c.from.result in
    let chunk : c.from.result ≡ r.chunk = c.from.ensures ∙ c.chunk.ensures.value in
    let some : 1 ≤ r.chunk = omega (arith, c.chunk.ensures.value, c.chunk.ensures.in_range.least) in
    let in_chunk : past ≡ c.args.len % r.chunk = ap (λ n. c.args.len % n) chunk in
    let is : got ≡ take (length c.read_at.new.into) (drop (c.args.len - past) bytes) =
    read_is _ m c.args.name.now bytes got (c.args.len - past) (length c.read_at.new.into) is_m is_b c.in_ok-count.ensures.value in
    let long : length c.read_at.new.into ≡ past = c.read_at.auto.into ∙ length-take-le past c.args.buffer.now (omega (arith, c.requires.room, mod-lt c.args.len some, chunk, in_chunk)) in
    c.crc.ensures
    ∙ (ap (λ k. sum_of k got) c.kind-2.ensures
    ∙ ap (sum_of r.kind) (is ∙ (ap (λ n. take n (drop (c.args.len - past) bytes)) long ∙ tail_part r bytes c.args.len past in_chunk within)))
