-- The bytes so far keep those that are certain.
use Rattle.fault_ports.specs.Certain.{certain_at}
use Rattle.fault_ports.proofs.OutcomeLaws.{KeepsCertain}
use Rattle.fault_ports.proofs.losing.left_of.Given as goal

abbrev pub invariant-loop-i : goal.invariant-loop-i
invariant-loop-i l = KeepsCertain (certain_at l.file.certain.items) l.left.items l.i
