-- The rounds so far are made.
use Rattle.std.proofs.Common.{◌≡◌}
use Rattle.script_lang.specs.Storms.{making, rounds}
use Rattle.script_lang.proofs.storms.Storm.rounds.Given as goal

abbrev pub invariant-loop-number : goal.invariant-loop-number
invariant-loop-number l = making l.self ≡ rounds l.number (making l.fn.self)
