-- The lower ends so far stand behind the others.
use Rattle.std.proofs.Common.{Ok}
use Rattle.play_recoveries.specs.Owning.{Serve}
use Rattle.play_recoveries.proofs.recoveries.Recoveries.serve.Given as goal

abbrev pub invariant-loop-lower : goal.invariant-loop-lower
invariant-loop-lower g l = Serve l.yielded l.fn.self l.self (Ok tt)
