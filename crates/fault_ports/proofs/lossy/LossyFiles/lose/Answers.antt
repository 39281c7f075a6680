-- What is left is one outcome, and the log begins with it.
use Rattle.std.proofs.Common.{◌≡◌, List, Some, ap, sym, subst, ◌∙◌}
use Rattle.file_calls.specs.Disks.{disk_of, synced_disk}
use Rattle.file_calls.specs.Losses.{MayStand}
use Rattle.fault_ports.specs.declared.entries.DiskEntry.{DiskEntry}
use Rattle.fault_ports.specs.declared.entries.StartEntry.{StartEntry}
use Rattle.fault_ports.specs.StoredFiles.{disk_by, files_by}
use Rattle.fault_ports.specs.MadeCalls.{calls_of}
use Rattle.fault_ports.specs.Outcomes.{Pairs}
use Rattle.fault_ports.proofs.OutcomeLaws.{seen-settled, lost-all}
use Rattle.fault_ports.proofs.lossy.LossyFiles.lose.Goals as goal

pub returns-clause-lost : goal.returns-clause-lost
returns-clause-lost c =
    let pairs : Pairs MayStand c.args.self.now.disk.items c.in_ok-start.start.items =
    subst (λ (d : List DiskEntry). Pairs MayStand d c.in_ok-start.start.items) c.deref.ensures.value c.in_ok-start.ensures in
    let settled : disk_by c.in_ok-disk.disk.items ≡ synced_disk (files_by c.in_ok-start.start.items) =
    c.in_ok-disk.ensures ∙ ap (λ (s : List StartEntry). synced_disk (files_by s)) c.deref-2.ensures.value in
    lost-all c.args.self.now.disk.items c.in_ok-disk.disk.items c.in_ok-start.start.items (disk_of (files_by c.args.self.now.start.items) (calls_of c.args.self.now.calls.items)) c.args.self.now.kept pairs settled

pub returns-clause-log : goal.returns-clause-log
returns-clause-log c =
    let settled : disk_by c.in_ok-disk.disk.items ≡ synced_disk (files_by c.in_ok-start.start.items) =
    c.in_ok-disk.ensures ∙ ap (λ (s : List StartEntry). synced_disk (files_by s)) c.deref-2.ensures.value in
    λ i. Some (record { start = sym (seen-settled c.in_ok-disk.disk.items c.in_ok-start.start.items settled) i; calls = ap calls_of c.clear.ensures.items i })
