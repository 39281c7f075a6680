-- The blocks so far are created.
use Rattle.std.proofs.Common.{◌≡◌}
use Rattle.script_lang.specs.Storms.{making, creates}
use Rattle.script_lang.proofs.storms.Storm.creates.Given as goal

abbrev pub invariant-loop-index : goal.invariant-loop-index
invariant-loop-index l = making l.self ≡ creates l.index (making l.fn.self)
