use Rattle.std.proofs.Common.{◌-◌, length}
use Rattle.std.specs.List.{All}
use Rattle.chunk_sums.specs.Four.{AreReady}
use Rattle.chunk_sums.proofs.ChunkLemmas.{WrittenSoFar}
use Rattle.chunk_sums.proofs.chunks.write_each_over.Given as goal

abbrev pub invariant-loop-at : goal.invariant-loop-at
invariant-loop-at g l = record {
  so_far : WrittenSoFar l.kind l.body l.first_len l.chunk l.rest l.into l.len l.at;
  ready : All (AreReady l.chunk) l.lanes;
}

abbrev pub decreases-loop-at : goal.decreases-loop-at
decreases-loop-at g l = length l.initial.into - l.at
