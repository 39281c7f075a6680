use Rattle.std.proofs.Common.{◌≡◌, ◌≤◌, ◌+◌, ◌++◌, length}
use Rattle.std.specs.Prelude.{vec_len, vec_capacity}
use Rattle.std.specs.List.{All}
use Rattle.chunk_sums.specs.Four.{AreReady}
use Rattle.chunk_sums.proofs.ChunkLemmas.{WrittenSoFar}
use Rattle.chunk_sums.proofs.copying.write_and_copy_over.Given as goal

abbrev pub invariant-loop-rest : goal.invariant-loop-rest
invariant-loop-rest g l = record {
  so_far : WrittenSoFar l.kind l.body l.first_len l.chunk l.rest l.into l.len l.at;
  ready : All (AreReady l.chunk) l.lanes;
  copied : l.copy.items ++ l.rest ≡ l.initial.copy.items ++ l.body;
  room : vec_len l.copy + length l.rest ≤ vec_capacity l.copy;
}

abbrev pub decreases-loop-rest : goal.decreases-loop-rest
decreases-loop-rest g l = length l.rest
