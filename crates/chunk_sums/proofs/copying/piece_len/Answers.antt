use Rattle.std.proofs.Common.{ℕ, ◌≡◌, ◌*◌, ◌/◌, max, ap, arith}
use Rattle.chunk_sums.proofs.ChunkLemmas.{fours_behind, some_fit}
use Rattle.chunk_sums.proofs.copying.piece_len.Goals as goal

pub returns : goal.returns
returns c = fours_behind c.max.result c.args.chunk c.args.len (omega (arith, c.max.ensures)) (omega arith)

pub overflow_mul-result : goal.overflow_mul-result
overflow_mul-result c =
    let same : c.max.result * c.args.chunk ≡ max (1024 / c.args.chunk) 1 * c.args.chunk = ap (λ (n : ℕ). n * c.args.chunk) c.max.ensures in
    omega (arith, same, some_fit 1024 c.args.chunk)

pub overflow_mul-result-2 : goal.overflow_mul-result-2
overflow_mul-result-2 c =
    let same : c.max.result * c.args.chunk ≡ max (1024 / c.args.chunk) 1 * c.args.chunk = ap (λ (n : ℕ). n * c.args.chunk) c.max.ensures in
    omega (arith, same, some_fit 1024 c.args.chunk)
