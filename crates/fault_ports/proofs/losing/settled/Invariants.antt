-- The entries so far are on the disk.
use Rattle.std.proofs.Common.{take}
use Rattle.fault_ports.specs.Outcomes.{Pairs, IsSyncedAs}
use Rattle.fault_ports.proofs.losing.settled.Given as goal

abbrev pub invariant-loop-entry : goal.invariant-loop-entry
invariant-loop-entry l = Pairs IsSyncedAs l.disk.items (take l.entry-index l.start)
