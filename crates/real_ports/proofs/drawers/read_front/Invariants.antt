use Rattle.std.proofs.Common.{◌≤◌, length}
use Rattle.real_ports.proofs.drawers.read_front.Given as goal

abbrev pub invariant-reads : goal.invariant-reads
invariant-reads l = l.count ≤ length l.into
