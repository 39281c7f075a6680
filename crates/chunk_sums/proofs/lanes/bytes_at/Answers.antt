use Rattle.std.proofs.lemmas.Simd.{get_or-chunk}
use Rattle.chunk_sums.proofs.lanes.bytes_at.Goals as goal

pub returns-clause-value : goal.returns-clause-value
returns-clause-value c = λ k h. get_or-chunk c.args.at 16 c.args.bytes.now k 0 h
