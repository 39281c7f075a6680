-- Files of which nothing changed but the count of faults.
use Rattle.std.proofs.Common.{◌≡◌, ℕ, Some, Result, OnErr, ap, ◌∙◌}
use Rattle.hd_base.specs.Calls.{Call, MakesPartOf}
use Rattle.file_calls.specs.Disks.{files_on}
use Rattle.fault_ports.specs.declared.lossy.LossyFiles.{LossyFiles}
use Rattle.fault_ports.specs.StoredFiles.{disk_by, files_by}
use Rattle.fault_ports.specs.MadeCalls.{calls_of}
use Rattle.fault_ports.proofs.LossyLaws.{MakesPartOf-nothing, on_err}

-- Only the count of faults has changed.
pub record SameFiles (old new : LossyFiles) : Type 0 where
  pub disk : new.disk.items ≡ old.disk.items
  pub start : new.start ≡ old.start
  pub calls : new.calls.items ≡ old.calls.items

pub same_files : (old new : LossyFiles) (faults : ℕ) → new ≡ record old { faults = faults } → SameFiles old new
same_files old new faults same = record { disk = ap (λ (f : LossyFiles). f.disk.items) same; start = ap (λ (f : LossyFiles). f.start) same; calls = ap (λ (f : LossyFiles). f.calls.items) same }

pub same_again : (old new more : LossyFiles) → SameFiles old new → SameFiles new more → SameFiles old more
same_again old new more a b = record { disk = b.disk ∙ a.disk; start = b.start ∙ a.start; calls = b.calls ∙ a.calls }

-- A call that failed for want of memory did nothing.
pub did_nothing : {T E : Type 0} (result : Result T E) (old new : LossyFiles) (call : Call) → SameFiles old new → OnErr result (MakesPartOf (Some (files_on (disk_by old.disk.items))) (Some (files_on (disk_by new.disk.items))) (Some (record { start = files_by old.start.items; calls = calls_of old.calls.items })) (Some (record { start = files_by new.start.items; calls = calls_of new.calls.items })) call)
did_nothing result old new call same =
    on_err result (MakesPartOf-nothing (files_by old.start.items) (files_by new.start.items) (calls_of old.calls.items) (calls_of new.calls.items) (disk_by old.disk.items) (disk_by new.disk.items) call (ap disk_by same.disk) (ap (λ v. files_by v.items) same.start) (ap calls_of same.calls))
