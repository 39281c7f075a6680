-- What is left of the list decides.
use Rattle.std.proofs.Common.{◌≡◌, ◌==◌, drop}
use Rattle.std.specs.List.{position_from}
use Rattle.mem_ports.proofs.slots.find_slot.Given as goal

abbrev pub invariant-loop-i : goal.invariant-loop-i
invariant-loop-i l =
    position_from (λ s. s.block.0 == l.block.0) l.i (drop l.i l.slots) ≡ position_from (λ s. s.block.0 == l.block.0) 0 l.slots
