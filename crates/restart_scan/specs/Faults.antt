-- Why a scan doesn't end.
use Rattle.std.specs.Prelude.{ℕ, ◌≤◌, Result, IsErrOf}
use Rattle.hd_base.specs.Faults.{FaultsIncreased}
use Rattle.hd_base.specs.declared.files.FileError.{FileError}
use Rattle.hd_base.specs.declared.files.FileError.TheVariants as file_error
use Rattle.restart_scan.specs.declared.faults.ScanFault.{ScanFault}
use Rattle.restart_scan.specs.declared.faults.ScanFault.TheVariants as fault

-- the fault of a failed call on files
abbrev pub scan_fault : FileError → ScanFault
scan_fault file_error.Memory = fault.Memory
scan_fault file_error.Absent = fault.File
scan_fault file_error.Failed = fault.File

-- The count doesn't fall, and File comes only where it rose.
pub record ScansFor {T : Type 0} (before now : ℕ) (result : Result T ScanFault) : Type 0 where
  pub never_falls : before ≤ now
  pub file : IsErrOf result fault.File → FaultsIncreased before now
