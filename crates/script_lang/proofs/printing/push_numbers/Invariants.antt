-- The numbers so far are appended.
use Rattle.std.proofs.Common.{◌≡◌, ◌++◌, take, map, decimal}
use Rattle.script_lang.specs.Reports.{spaced}
use Rattle.script_lang.proofs.printing.push_numbers.Given as goal

abbrev pub invariant-numbers : goal.invariant-numbers
invariant-numbers l = l.out.items ≡ l.fn.out.items ++ spaced (map decimal (take l.number-index l.numbers))
