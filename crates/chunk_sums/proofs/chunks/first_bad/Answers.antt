use Rattle.std.proofs.Common.{length, ap, refl, arith}
use Rattle.std.proofs.lemmas.List.{nil_from_length}
use Rattle.chunk_sums.specs.Chunks.{flat_sums, summed_chunks}
use Rattle.chunk_sums.proofs.chunks.first_bad.Goals as goal

pub returns-in-Null-clause-same : goal.returns-in-Null-clause-same
unfolding flat_sums
returns-in-Null-clause-same c =
    let none = ap (λ k. length (summed_chunks k c.args.first_len c.args.chunk c.args.body.now)) c.in-Null.is in
    rw c.in-Null.is (λ _. nil_from_length c.args.sums.now (omega (arith, none, c.requires.four_per_chunk)), λ _. refl)
