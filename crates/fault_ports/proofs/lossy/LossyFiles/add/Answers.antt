-- The call stands behind the others, and the file before the others.
use Rattle.std.proofs.Common.{◌≡◌, List, [], ◌∷◌, ◌++◌, option_map, ap, ◌∙◌}
use Rattle.std.specs.Str.{bytes_eq}
use Rattle.std.specs.Map.{update}
use Rattle.file_calls.specs.Disks.{disk_after_call}
use Rattle.fault_ports.specs.declared.entries.DiskEntry.{DiskEntry}
use Rattle.fault_ports.specs.StoredFiles.{disk_file_of, disk_by, files_by}
use Rattle.fault_ports.specs.MadeCalls.{call_of}
use Rattle.fault_ports.proofs.LossyLaws.{disk_of-push, MakesCalls-push}
use Rattle.fault_ports.proofs.UnchangedLaws.{did_nothing}
use Rattle.fault_ports.proofs.lossy.LossyFiles.add.Goals as goal

pub invariant_of-self : goal.invariant_of-self
invariant_of-self c =
    let step : disk_by c.put_first.new.entries.items ≡ disk_after_call (call_of c.args.call) (disk_by c.args.self.now.disk.items) =
    c.put_first.ensures.disk ∙ (ap (λ (es : List DiskEntry). update bytes_eq (disk_by es) c.args.name.now (option_map disk_file_of c.args.file)) c.reserve.ensures.same ∙ c.requires) in
    record {
      kept = disk_of-push (files_by c.args.self.now.start.items) (files_by c.reserve.new.self.start.items) c.args.self.now.calls.items c.push_reserved.new.self.items (disk_by c.args.self.now.disk.items) (disk_by c.put_first.new.entries.items) c.args.call c.args.self.now.kept step
          (ap (λ v. files_by v.items) c.reserve.ensures.start)
          (c.push_reserved.ensures.items ∙ ap (λ made. made ++ c.args.call ∷ []) c.reserve.ensures.calls);
    }

pub returns-clause-done : goal.returns-clause-done
returns-clause-done c =
    let step : disk_by c.put_first.new.entries.items ≡ disk_after_call (call_of c.args.call) (disk_by c.args.self.now.disk.items) =
    c.put_first.ensures.disk ∙ (ap (λ (es : List DiskEntry). update bytes_eq (disk_by es) c.args.name.now (option_map disk_file_of c.args.file)) c.reserve.ensures.same ∙ c.requires) in
    MakesCalls-push (files_by c.args.self.now.start.items) (files_by c.reserve.new.self.start.items) c.args.self.now.calls.items c.push_reserved.new.self.items (disk_by c.args.self.now.disk.items) (disk_by c.put_first.new.entries.items) c.args.call step
    (ap (λ v. files_by v.items) c.reserve.ensures.start)
    (c.push_reserved.ensures.items ∙ ap (λ made. made ++ c.args.call ∷ []) c.reserve.ensures.calls)

pub returns-in_err-reserve-clause-in_part : goal.returns-in_err-reserve-clause-in_part
returns-in_err-reserve-clause-in_part c =
    did_nothing c.from_residual.result c.args.self.now c.reserve.new.self (call_of c.args.call) (record { disk = c.reserve.ensures.same; start = c.reserve.ensures.start; calls = c.reserve.ensures.calls })
