-- The numbers that were looked at are one less.
use Rattle.std.proofs.Common.{◌≡◌, ◌-◌, ◌++◌, map, take, drop}
use Rattle.mem_ports.proofs.schedules.count_on.Given as goal

abbrev pub invariant-loop-number : goal.invariant-loop-number
invariant-loop-number l =
    l.number-items ≡ map (λ n. n - 1) (take l.number-index l.initial.number-items) ++ drop l.number-index l.initial.number-items
