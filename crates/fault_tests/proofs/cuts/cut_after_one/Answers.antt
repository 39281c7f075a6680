-- The connections are known after the cut.
use Rattle.fault_ports.proofs.StandingLaws.{known_after}
use Rattle.fault_tests.proofs.cuts.cut_after_one.Goals as goal

pub taken-requires-clause-from : goal.taken-requires-clause-from
taken-requires-clause-from g c κs within =
    rw c.say_three.ensures.same (known_after _ _ c.args.from.now.id.0 c.cut.ensures.connections (c.say_three.ensures.known c.args.from.now.id.0 c.requires.from))

pub taken-requires-clause-to : goal.taken-requires-clause-to
taken-requires-clause-to g c κs within = known_after _ _ c.args.to.now.id.0 c.cut.ensures.connections (c.say_three.ensures.known c.args.to.now.id.0 c.requires.to)
