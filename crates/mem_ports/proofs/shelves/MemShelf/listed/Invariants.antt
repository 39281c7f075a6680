-- The names so far, and those of the slots that are left, are all.
use Rattle.std.proofs.Common.{◌≡◌, ◌++◌, drop}
use Rattle.mem_ports.specs.Slots.{present_in}
use Rattle.mem_ports.proofs.shelves.MemShelf.listed.Given as goal

abbrev pub invariant-loop-slot : goal.invariant-loop-slot
invariant-loop-slot l = l.names.items ++ present_in (drop l.slot-index l.self.slots.items) ≡ present_in l.self.slots.items
