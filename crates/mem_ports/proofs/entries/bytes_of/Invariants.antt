-- What is left of the list decides.
use Rattle.std.proofs.Common.{◌≡◌, drop}
use Rattle.mem_ports.specs.Entries.{look}
use Rattle.mem_ports.proofs.entries.bytes_of.Given as goal

abbrev pub invariant-loop-entry : goal.invariant-loop-entry
invariant-loop-entry l = look (drop l.entry-index l.entries) l.name ≡ look l.entries l.name
