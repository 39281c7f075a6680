-- All bytes are certain.
use Rattle.std.proofs.Common.{refl, ap, ◌∙◌}
use Rattle.fault_ports.specs.Certain.{certain_at}
use Rattle.fault_ports.proofs.CertainLaws.{certain_at-all_certain}
use Rattle.fault_ports.proofs.StoredLaws.{same_disk_file}
use Rattle.fault_ports.proofs.stored_files.StoredFile.synced.Goals as goal

pub returns : goal.returns
returns c =
    same_disk_file _ _ c.in_ok-from_slice.ensures.items
    (ap certain_at c.in_ok-all_certain.ensures ∙ certain_at-all_certain c.args.bytes.now) refl refl
