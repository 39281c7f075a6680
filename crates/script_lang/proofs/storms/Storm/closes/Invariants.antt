-- The blocks so far are closed.
use Rattle.std.proofs.Common.{◌≡◌}
use Rattle.script_lang.specs.Storms.{making, closes}
use Rattle.script_lang.proofs.storms.Storm.closes.Given as goal

abbrev pub invariant-loop-index : goal.invariant-loop-index
invariant-loop-index l = making l.self ≡ closes l.index (making l.fn.self)
