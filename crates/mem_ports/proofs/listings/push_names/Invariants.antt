-- The names so far, and those of what is left, are all.
use Rattle.std.proofs.Common.{◌≡◌, ◌++◌, drop}
use Rattle.mem_ports.specs.Entries.{present}
use Rattle.mem_ports.proofs.listings.push_names.Given as goal

abbrev pub invariant-loop-entry : goal.invariant-loop-entry
invariant-loop-entry l = l.names.items ++ present (drop l.entry-index l.entries) ≡ l.initial.names.items ++ present l.entries
