-- So far, as many bytes are summed as the place says; the files are as they were, and their count hasn't fallen.
use Rattle.std.proofs.Common.{◌-◌, ℕ, ◌≤◌, List}
use Rattle.replica_calls.specs.Performed.{KeepsAll}
use Rattle.replica_files.specs.Summing.{IsFile, IsSumTo}
use Rattle.replica_files.proofs.summing.sum_pieces.Given as goal

abbrev pub invariant-pieces : goal.invariant-pieces
invariant-pieces g l = record {
  within : l.summed.place ≤ l.len;
  so_far : (bytes : List ℕ) → IsFile (g.F.Files.files l.initial.drawer) l.name l.len bytes → IsSumTo (g.F.Files.files l.initial.drawer) bytes l.summed;
  kept : KeepsAll g.F.Files l.initial.drawer l.drawer;
  never_falls : g.F.Files.faults l.initial.drawer ≤ g.F.Files.faults l.drawer;
}

abbrev pub decreases-pieces : goal.decreases-pieces
decreases-pieces g l = l.len - l.summed.place
