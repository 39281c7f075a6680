-- The names of the files are listed.
use Rattle.std.proofs.Common.{ap, ◌∙◌}
use Rattle.std.specs.Str.{bytes_eq}
use Rattle.mem_ports.specs.Apart.{is_among}
use Rattle.mem_ports.proofs.NameLaws.{names_by}
use Rattle.file_calls.specs.Disks.{files_on}
use Rattle.fault_ports.specs.StoredFiles.{disk_by}
use Rattle.fault_ports.proofs.PresentLaws.{present-files, all_listed}
use Rattle.fault_ports.proofs.listings.listed.Goals as goal

pub returns : goal.returns
returns c =
    let entries = c.args.entries.now in
    names_by c.in_order.result c.loop-entry.names.items (files_on (disk_by entries)) c.in_order.ensures.each c.in_order.ensures.ascending
    (λ q. ap (λ ns. is_among bytes_eq ns q) (all_listed (disk_by entries) c.loop-entry.names.items entries c.loop-entry.entry-index c.loop-entry.invariant c.loop-entry-test.false) ∙ present-files entries q)
