-- The names so far, and those of what is left, are all.
use Rattle.std.proofs.Common.{◌≡◌, ◌++◌, drop}
use Rattle.fault_ports.specs.StoredFiles.{disk_by, present}
use Rattle.fault_ports.proofs.listings.listed.Given as goal

abbrev pub invariant-loop-entry : goal.invariant-loop-entry
invariant-loop-entry l =
    l.names.items ++ present (disk_by l.entries) (drop l.entry-index l.entries) ≡ present (disk_by l.entries) l.entries
