-- What is left of the list decides.
use Rattle.std.proofs.Common.{◌≡◌, drop}
use Rattle.fault_ports.specs.StoredFiles.{disk_by}
use Rattle.fault_ports.proofs.entries.find_file.Given as goal

abbrev pub invariant-loop-entry : goal.invariant-loop-entry
invariant-loop-entry l = disk_by (drop l.entry-index l.entries) l.name ≡ disk_by l.entries l.name
