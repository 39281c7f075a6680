-- The entries that were looked at are renamed.
use Rattle.std.proofs.Common.{◌≡◌, ◌++◌, map, take, drop}
use Rattle.mem_ports.specs.Entries.{renamed}
use Rattle.mem_ports.proofs.entries.rename_entries.Given as goal

abbrev pub invariant-loop-entry : goal.invariant-loop-entry
invariant-loop-entry l =
    l.entry-items ≡ map (renamed l.from l.to) (take l.entry-index l.initial.entry-items) ++ drop l.entry-index l.initial.entry-items
