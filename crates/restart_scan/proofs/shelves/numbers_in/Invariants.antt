-- So far, the numbers of the first names.
use Rattle.std.proofs.Common.{◌≡◌, take}
use Rattle.restart_scan.specs.Shelves.{numbers_in}
use Rattle.restart_scan.proofs.shelves.numbers_in.Given as goal

abbrev pub invariant-loop-name : goal.invariant-loop-name
invariant-loop-name l = l.numbers.items ≡ numbers_in (take l.name-index l.names)
