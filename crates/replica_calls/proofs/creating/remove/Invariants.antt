use Rattle.replica_calls.proofs.RemovalLemmas.{IsRemoving}
use Rattle.replica_calls.proofs.creating.remove.Given as goal

-- The first files are removed.
abbrev pub invariant-loop-name : goal.invariant-loop-name
invariant-loop-name g l = IsRemoving g.F.Files l.fn.files l.files l.name-index l.strays
