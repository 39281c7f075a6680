-- The count so far, with the own steps of the clients that are left, makes that of all.
use Rattle.std.proofs.Common.{◌≡◌, ◌≤◌, ◌+◌, length, drop}
use Rattle.play_dues.specs.Primaries.{primaries_listed}
use Rattle.play_dues.proofs.primaries.count_primaries.Given as goal

abbrev pub invariant-loop-client : goal.invariant-loop-client
invariant-loop-client g l =
    (l.count + length (primaries_listed (drop l.client-index l.clients)) ≡ length (primaries_listed l.clients)) × (l.count ≤ l.client-index)
