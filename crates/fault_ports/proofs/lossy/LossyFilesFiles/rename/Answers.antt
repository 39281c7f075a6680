-- Want of memory changed nothing; else the file moved.
use Rattle.std.proofs.Common.{◌≡◌, List, [], ◌∷◌, ◌++◌, Some, None, option_map, option_copied, ap, ◌∙◌, sym}
use Rattle.std.specs.Str.{bytes_eq}
use Rattle.std.specs.Map.{update}
use Rattle.std.proofs.lemmas.Result.{IfOk-at_ok}
use Rattle.hd_base.specs.Calls.{Rename}
use Rattle.file_calls.specs.Disks.{disk_after_call, files_on}
use Rattle.fault_ports.specs.declared.made_calls.MadeCall.{MadeCall}
use Rattle.fault_ports.specs.declared.made_calls.MadeCall.TheVariants as made_call
use Rattle.fault_ports.specs.declared.entries.DiskEntry.{DiskEntry}
use Rattle.fault_ports.specs.StoredFiles.{disk_file_of, disk_by, files_by}
use Rattle.fault_ports.specs.MadeCalls.{call_of}
use Rattle.fault_ports.proofs.LossyLaws.{disk-moved, disk_of-push, files_on-call}
use Rattle.fault_ports.proofs.UnchangedLaws.{did_nothing, same_files, same_again, SameFiles}
use Rattle.fault_ports.proofs.lossy.LossyFilesFiles.rename.Goals as goal

pub returns-in_err-file-2-clause-in_part : goal.returns-in_err-file-2-clause-in_part
returns-in_err-file-2-clause-in_part c =
    did_nothing c.from_residual-in_err-file-2.result c.args.self.now c.or_fault.new.self (Rename c.args.from.now c.args.to.now) (same_files c.args.self.now c.or_fault.new.self _ c.or_fault.ensures.same)

pub returns-in_err-reserve-clause-in_part : goal.returns-in_err-reserve-clause-in_part
returns-in_err-reserve-clause-in_part c =
    did_nothing c.from_residual-in_err-reserve.result c.args.self.now c.reserve.new.self (Rename c.args.from.now c.args.to.now)
    (same_again c.args.self.now c.or_fault.new.self c.reserve.new.self (same_files c.args.self.now c.or_fault.new.self _ c.or_fault.ensures.same) (record { disk = c.reserve.ensures.same; start = c.reserve.ensures.start; calls = c.reserve.ensures.calls }))

pub invariant_of-self : goal.invariant_of-self
invariant_of-self c =
    let found : Some (disk_file_of c.in_ok-file.file.now) ≡ disk_by c.args.self.now.disk.items c.args.from.now =
    ap (λ o. option_map disk_file_of (option_copied o)) (sym c.in_ok-file.ensures.ok_part) ∙ (c.find_file.ensures ∙ ap (λ (es : List DiskEntry). disk_by es c.args.from.now) c.deref.ensures.value) in
    let same : disk_file_of c.in_ok-file-2.file ≡ disk_file_of c.in_ok-file.file.now =
    IfOk-at_ok (λ f. disk_file_of f ≡ disk_file_of c.in_ok-file.file.now) c.in_ok-file-2.ensures.value c.duplicate-moved.ensures in
    let kept : SameFiles c.args.self.now c.reserve.new.self =
    same_again c.args.self.now c.or_fault.new.self c.reserve.new.self (same_files c.args.self.now c.or_fault.new.self _ c.or_fault.ensures.same) (record { disk = c.reserve.ensures.same; start = c.reserve.ensures.start; calls = c.reserve.ensures.calls }) in
    let gone : disk_by c.put_first.new.entries.items ≡ update bytes_eq (disk_by c.args.self.now.disk.items) c.args.from.now None =
    c.put_first.ensures.disk ∙ ap (λ (es : List DiskEntry). update bytes_eq (disk_by es) c.args.from.now None) kept.disk in
    let moved : disk_by c.put_first-2.new.entries.items ≡ disk_after_call (Rename c.args.from.now c.args.to.now) (disk_by c.args.self.now.disk.items) =
    disk-moved (disk_by c.args.self.now.disk.items) (disk_by c.put_first.new.entries.items) (disk_by c.put_first-2.new.entries.items) c.args.from.now c.args.to.now (disk_file_of c.in_ok-file.file.now) (disk_file_of c.in_ok-file-2.file) gone c.put_first-2.ensures.disk found same in
    let call : MadeCall = made_call.Rename c.duplicate.result c.duplicate-2.result in
    let named : Rename c.args.from.now c.args.to.now ≡ call_of call =
    λ i. Rename (sym c.duplicate.ensures i) (sym c.duplicate-2.ensures i) in
    record {
      kept = disk_of-push (files_by c.args.self.now.start.items) (files_by c.reserve.new.self.start.items) c.args.self.now.calls.items c.push_reserved.new.self.items (disk_by c.args.self.now.disk.items) (disk_by c.put_first-2.new.entries.items) call c.args.self.now.kept
          (moved ∙ ap (λ k. disk_after_call k (disk_by c.args.self.now.disk.items)) named)
          (ap (λ v. files_by v.items) kept.start)
          (c.push_reserved.ensures.items ∙ ap (λ made. made ++ call ∷ []) kept.calls);
    }

pub returns-clause-done : goal.returns-clause-done
returns-clause-done c =
    let found : Some (disk_file_of c.in_ok-file.file.now) ≡ disk_by c.args.self.now.disk.items c.args.from.now =
    ap (λ o. option_map disk_file_of (option_copied o)) (sym c.in_ok-file.ensures.ok_part) ∙ (c.find_file.ensures ∙ ap (λ (es : List DiskEntry). disk_by es c.args.from.now) c.deref.ensures.value) in
    let same : disk_file_of c.in_ok-file-2.file ≡ disk_file_of c.in_ok-file.file.now =
    IfOk-at_ok (λ f. disk_file_of f ≡ disk_file_of c.in_ok-file.file.now) c.in_ok-file-2.ensures.value c.duplicate-moved.ensures in
    let kept : SameFiles c.args.self.now c.reserve.new.self =
    same_again c.args.self.now c.or_fault.new.self c.reserve.new.self (same_files c.args.self.now c.or_fault.new.self _ c.or_fault.ensures.same) (record { disk = c.reserve.ensures.same; start = c.reserve.ensures.start; calls = c.reserve.ensures.calls }) in
    let gone : disk_by c.put_first.new.entries.items ≡ update bytes_eq (disk_by c.args.self.now.disk.items) c.args.from.now None =
    c.put_first.ensures.disk ∙ ap (λ (es : List DiskEntry). update bytes_eq (disk_by es) c.args.from.now None) kept.disk in
    let moved : disk_by c.put_first-2.new.entries.items ≡ disk_after_call (Rename c.args.from.now c.args.to.now) (disk_by c.args.self.now.disk.items) =
    disk-moved (disk_by c.args.self.now.disk.items) (disk_by c.put_first.new.entries.items) (disk_by c.put_first-2.new.entries.items) c.args.from.now c.args.to.now (disk_file_of c.in_ok-file.file.now) (disk_file_of c.in_ok-file-2.file) gone c.put_first-2.ensures.disk found same in
    ap Some (ap files_on moved ∙ files_on-call (Rename c.args.from.now c.args.to.now) (disk_by c.args.self.now.disk.items))
