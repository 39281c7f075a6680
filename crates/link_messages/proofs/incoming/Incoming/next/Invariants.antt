-- What is to be taken stays while it is received, and more of it has reached the feed each time.
use Rattle.std.proofs.Common.{◌≡◌, ◌-◌, ◌≤◌, [], length}
use Rattle.link_messages.specs.Incomings.{coming}
use Rattle.link_messages.proofs.incoming.Incoming.next.Given as goal

abbrev pub invariant-pieces : goal.invariant-pieces
invariant-pieces g l = record {
  fed : l.self.unpushed ≡ [];
  stays : coming l.self (g.I.LinkIn.held l.inward) ≡ coming l.initial.self (g.I.LinkIn.held l.initial.inward);
  refused : l.self.refused ≡ l.initial.self.refused;
  shut : g.I.LinkIn.shut l.inward ≡ g.I.LinkIn.shut l.initial.inward;
  never_falls : g.I.LinkIn.faults l.initial.inward ≤ g.I.LinkIn.faults l.inward;
}

abbrev pub decreases-pieces : goal.decreases-pieces
decreases-pieces g l = 16777219 - length l.self.rest
