use Rattle.std.proofs.Common.{◌≡◌, ℕ, ◌+◌, ◌-◌, ◌<◌, ◌≤◌, Bool, length}
use Rattle.fault_ports.specs.PieceCounts.{count_at}
use Rattle.fault_ports.proofs.piece_counts.PieceCounts.extend.Given as goal

abbrev pub invariant-loop-self : goal.invariant-loop-self
invariant-loop-self l = record {
  same : (c : ℕ) (d : Bool) → count_at l.self.duplexes.items c d ≡ count_at l.initial.self.duplexes.items c d;
  bounded : (n : ℕ) → length l.initial.self.duplexes.items ≤ n → l.place < n → length l.self.duplexes.items ≤ n;
}

abbrev pub decreases-loop-self : goal.decreases-loop-self
decreases-loop-self l = l.place + 1 - length l.self.duplexes.items
