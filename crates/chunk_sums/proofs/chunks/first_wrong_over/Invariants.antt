use Rattle.std.proofs.Common.{length}
use Rattle.std.specs.List.{All}
use Rattle.chunk_sums.specs.Four.{AreReady}
use Rattle.chunk_sums.proofs.ChunkLemmas.{SoFar}
use Rattle.chunk_sums.proofs.chunks.first_wrong_over.Given as goal

abbrev pub invariant-loop-sum : goal.invariant-loop-sum
invariant-loop-sum g l = record {
  so_far : SoFar l.kind l.body l.sums l.first_len l.chunk l.rest l.left l.len l.number;
  ready : All (AreReady l.chunk) l.lanes;
}

abbrev pub decreases-loop-sum : goal.decreases-loop-sum
decreases-loop-sum g l = length l.left
