use Rattle.std.proofs.Common.{length, ap, arith}
use Rattle.std.proofs.lemmas.List.{nil_from_length}
use Rattle.chunk_sums.specs.Chunks.{flat_sums, summed_chunks}
use Rattle.chunk_sums.proofs.copying.write_sums_and_copy.Goals as goal

pub returns-in-Null-clause-sums : goal.returns-in-Null-clause-sums
unfolding flat_sums
returns-in-Null-clause-sums c =
    let none = ap (λ k. length (summed_chunks k c.args.first_len c.args.chunk c.args.body.now)) c.in-Null.is in
    rw c.in-Null.is (nil_from_length c.args.into.now (omega (arith, none, c.requires.four_per_chunk)))
