-- The answers from a place on stand in the table.
use Rattle.std.proofs.Common.{◌≡◌, ◌≤◌, ℕ, nat_eq, drop, length}
use Rattle.std.specs.HashMap.{get}
use Rattle.play_report.specs.Answers.{told, answer_at, said_in}
use Rattle.play_report.proofs.answers.places_of.Given as goal

abbrev pub invariant-loop-place : goal.invariant-loop-place
invariant-loop-place l = record {
  within : l.place ≤ length l.said;
  stand : (q : ℕ) → answer_at l.said (get nat_eq l.places q) ≡ told (said_in (drop l.place l.said)) q;
}

abbrev pub decreases-loop-place : goal.decreases-loop-place
decreases-loop-place l = l.place
