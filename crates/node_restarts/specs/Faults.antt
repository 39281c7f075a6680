-- Why a node's books aren't made again.
use Rattle.std.specs.Prelude.{ℕ}
use Rattle.hd_base.specs.Faults.{FaultsIncreased}
use Rattle.replica_files.specs.declared.faults.FoundFault.{FoundFault}
use Rattle.replica_files.specs.declared.faults.FoundFault.TheVariants as found
use Rattle.restart_scan.specs.declared.faults.ScanFault.{ScanFault}
use Rattle.restart_scan.specs.declared.faults.ScanFault.TheVariants as scan
use Rattle.node_restarts.specs.declared.faults.RestartFault.{RestartFault}
use Rattle.node_restarts.specs.declared.faults.RestartFault.TheVariants as fault

-- the fault of a scan that didn't end
abbrev pub of_scan : ScanFault → RestartFault
of_scan scan.File = fault.Files
of_scan scan.Memory = fault.Memory

-- the fault of a book that wasn't made
abbrev pub of_found : FoundFault → RestartFault
of_found found.File = fault.Files
of_found found.Memory = fault.Memory

-- Files comes only where the count rose; else memory ran out.
abbrev pub HasRestartCause : ℕ → ℕ → RestartFault → Type 0
HasRestartCause before now fault.Files = FaultsIncreased before now
HasRestartCause before now fault.Memory = Unit {0}
