-- So far, the numbers of the first replicas.
use Rattle.std.proofs.Common.{◌≡◌, take}
use Rattle.restart_scan.specs.Shelves.{numbers_of}
use Rattle.restart_scan.proofs.strays.numbers_of.Given as goal

abbrev pub invariant-loop-seen : goal.invariant-loop-seen
invariant-loop-seen l = l.numbers.items ≡ numbers_of (take l.seen-index l.replicas)
