-- What is left of the list decides.
use Rattle.std.proofs.Common.{◌≡◌, ◌==◌, drop}
use Rattle.std.specs.List.{position_from}
use Rattle.mem_ports.proofs.dials.find_dial.Given as goal

abbrev pub invariant-loop-i : goal.invariant-loop-i
invariant-loop-i l =
    position_from (λ d. d.port == l.port) l.i (drop l.i l.dials) ≡ position_from (λ d. d.port == l.port) 0 l.dials
