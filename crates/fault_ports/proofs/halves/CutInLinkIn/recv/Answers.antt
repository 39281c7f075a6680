-- The byte that was received in advance is given first.
use Rattle.std.proofs.Common.{sym, ◌∙◌}
use Rattle.fault_ports.proofs.HalfLaws.{received-first}
use Rattle.fault_ports.proofs.halves.CutInLinkIn.recv.Goals as goal

pub returns-in-Some-clause-received : goal.returns-in-Some-clause-received
returns-in-Some-clause-received g c =
    received-first g.I.LinkIn.held c.args.self.now.inner c.args.self.now.first c.take.new.self c.in-Some.byte c.args.self.now.ended c.args.into.now
    (sym c.take.ensures.value ∙ c.in-Some.is) c.take.ensures.after c.requires
