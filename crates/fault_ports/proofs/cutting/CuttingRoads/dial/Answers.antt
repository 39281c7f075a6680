-- The new connection has the next number, and nothing stands on it.
use Rattle.fault_ports.proofs.DialLaws.{dialled-newest, counted-newest, empty-newest}
use Rattle.fault_ports.proofs.cutting.CuttingRoads.dial.Goals as goal

pub invariant_of-self-clause-dialled : goal.invariant_of-self-clause-dialled
invariant_of-self-clause-dialled g c =
    dialled-newest (g.R.Roads.plain c.args.self.now.inner) (g.R.Roads.plain c.dial.new.self) c.args.port c.in-Ok.end.id.0 c.in-Ok.ensures.plain c.in-Ok.ensures.number

pub invariant_of-self-clause-counted : goal.invariant_of-self-clause-counted
invariant_of-self-clause-counted g c =
    counted-newest c.args.self.now.counts.duplexes.items (g.R.Roads.plain c.args.self.now.inner) (g.R.Roads.plain c.dial.new.self) c.args.port c.in-Ok.end.id.0
    c.in-Ok.ensures.plain c.in-Ok.ensures.number c.in-Ok.ensures.empty c.args.self.now.counted

pub returns-in-Ok-clause-empty : goal.returns-in-Ok-clause-empty
returns-in-Ok-clause-empty g c =
    rw c.wrapped.ensures.place.0 (empty-newest c.args.self.now.counts.duplexes.items (g.R.Roads.plain c.args.self.now.inner) c.in-Ok.end.id.0
    c.in-Ok.ensures.number c.in-Ok.ensures.empty c.args.self.now.counted)
