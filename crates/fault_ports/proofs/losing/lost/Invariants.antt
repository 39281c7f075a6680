-- What is left of the entries so far.
use Rattle.std.proofs.Common.{take}
use Rattle.file_calls.specs.Losses.{MayStand}
use Rattle.fault_ports.specs.Outcomes.{Pairs}
use Rattle.fault_ports.proofs.losing.lost.Given as goal

abbrev pub invariant-loop-entry : goal.invariant-loop-entry
invariant-loop-entry l = Pairs MayStand (take l.entry-index l.disk) l.left.items
