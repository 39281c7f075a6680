-- What is left leads to the same number, and has one byte less each time.
use Rattle.std.proofs.Common.{◌≡◌, length}
use Rattle.script_lang.specs.Numbers.{digits_on}
use Rattle.script_lang.proofs.numbers.digits.Given as goal

abbrev pub invariant-digits : goal.invariant-digits
invariant-digits l = digits_on l.value l.rest ≡ digits_on 0 l.fn.text

abbrev pub decreases-digits : goal.decreases-digits
decreases-digits l = length l.rest
