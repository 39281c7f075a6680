-- The bytes so far, and those of what is left, are all.
use Rattle.std.proofs.Common.{◌≡◌, ◌++◌, drop}
use Rattle.fault_ports.specs.Certain.{all_certain}
use Rattle.fault_ports.proofs.certain.all_certain.Given as goal

abbrev pub invariant-loop-byte : goal.invariant-loop-byte
invariant-loop-byte l = l.certain.items ++ all_certain (drop l.byte-index l.bytes) ≡ all_certain l.bytes
