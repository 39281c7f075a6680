-- The bytes so far, and those of what is left, are all.
use Rattle.std.proofs.Common.{◌≡◌, ◌++◌, drop}
use Rattle.fault_ports.specs.Certain.{without_range}
use Rattle.fault_ports.proofs.certain.without_range.Given as goal

abbrev pub invariant-loop-i : goal.invariant-loop-i
invariant-loop-i l =
    l.kept.items ++ without_range l.place l.end l.i (drop l.i l.certain) ≡ without_range l.place l.end 0 l.certain
