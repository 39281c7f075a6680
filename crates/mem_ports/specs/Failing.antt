-- Which calls are to fail, as a list of their numbers.
use Rattle.std.specs.Prelude.{ℕ, ◌+◌, ◌-◌, ◌==◌, nat_lt, List, map, filter}
use Rattle.std.specs.List.{list_any}
use Rattle.hd_base.specs.Faults.{FaultSchedule}

-- the plan that a list of call numbers makes: the next call has the number 1
abbrev pub schedule_of : List ℕ → FaultSchedule
schedule_of numbers = λ k. list_any (λ n. n == k + 1) numbers

-- the numbers as counted from the call after the next, without those that are past
abbrev pub counted_on : List ℕ → List ℕ
counted_on numbers = filter (nat_lt 0) (map (λ n. n - 1) numbers)
