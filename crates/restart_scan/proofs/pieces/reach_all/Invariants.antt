-- So far, all chunks match up to the bytes that are kept; the files are as they were, and their count hasn't fallen.
use Rattle.std.proofs.Common.{◌-◌, ℕ, ◌≤◌, List, IfSome}
use Rattle.replica_calls.specs.Performed.{KeepsAll}
use Rattle.restart_scan.specs.Kept.{AreStored, IsMatchingTo, HaveRoom}
use Rattle.restart_scan.proofs.pieces.reach_all.Given as goal

abbrev pub invariant-pieces : goal.invariant-pieces
invariant-pieces g l = record {
  within : l.kept ≤ l.len;
  room : HaveRoom l.rule l.buffer l.sums;
  so_far : (bytes stored : List ℕ) → AreStored (g.F.Files.files l.initial.drawer) l.names l.rule l.len bytes stored →
      IfSome (g.F.Files.files l.initial.drawer) (λ _. IsMatchingTo l.rule bytes stored l.kept);
  kept : KeepsAll g.F.Files l.initial.drawer l.drawer;
  never_falls : g.F.Files.faults l.initial.drawer ≤ g.F.Files.faults l.drawer;
}

abbrev pub decreases-pieces : goal.decreases-pieces
decreases-pieces g l = l.len - l.kept
