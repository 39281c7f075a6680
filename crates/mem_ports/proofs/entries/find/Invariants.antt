-- What is left of the list decides.
use Rattle.std.proofs.Common.{◌≡◌, drop}
use Rattle.std.specs.List.{position_from}
use Rattle.std.specs.Str.{bytes_eq}
use Rattle.mem_ports.proofs.entries.find.Given as goal

abbrev pub invariant-loop-i : goal.invariant-loop-i
invariant-loop-i l =
    position_from (λ e. bytes_eq e.name l.name) l.i (drop l.i l.entries) ≡ position_from (λ e. bytes_eq e.name l.name) 0 l.entries
