-- Why an event of the recoveries isn't done.
use Rattle.std.specs.Prelude.{◌≡◌, ℕ, true}
use Rattle.hd_base.specs.Faults.{FaultsIncreased}
use Rattle.hd_base.specs.declared.files.Files as files
use Rattle.hd_base.specs.declared.roads.Roads as roads
use Rattle.play_primaries.specs.PrimaryEvents.PrimaryFault.{PrimaryFault}
use Rattle.play_primaries.specs.PrimaryEvents.PrimaryFault.TheVariants as primary_fault
use Rattle.play_servers.specs.RecoveryEvents.RecoveryFault.{RecoveryFault}
use Rattle.play_servers.specs.RecoveryEvents.RecoveryFault.TheVariants as recovery_fault
use Rattle.play_nodes.specs.declared.nodes.Nodes.{Nodes}
use Rattle.play_nodes.specs.Events.{DrawerFailed}
use Rattle.play_recoveries.specs.declared.faults.RecoveriesFault.{RecoveriesFault}
use Rattle.play_recoveries.specs.declared.faults.RecoveriesFault.TheVariants as fault

-- the fault of a primary
abbrev pub of_primary : PrimaryFault → RecoveriesFault
of_primary primary_fault.LinkFailed = fault.LinkFailed
of_primary primary_fault.RoadsFailed = fault.RoadsFailed
of_primary primary_fault.Memory = fault.Memory

-- the fault of a lower end
abbrev pub of_server : RecoveryFault → RecoveriesFault
of_server recovery_fault.LinkFailed = fault.LinkFailed
of_server recovery_fault.RoadsFailed = fault.RoadsFailed
of_server recovery_fault.Memory = fault.Memory

-- Each fault has its cause.
abbrev pub IsCaused : {F R I O : Type 0} → files.Ghosts F → roads.Ghosts R I O → Nodes F I O → Nodes F I O → R → R →
    RecoveriesFault → Type 0
IsCaused f r old new road road' fault.LinkFailed = (c : ℕ) × (r.risen road' c ≡ true)
IsCaused f r old new road road' fault.RoadsFailed = FaultsIncreased (r.faults road) (r.faults road')
IsCaused f r old new road road' (fault.FilesFailed node) = DrawerFailed f old new node
IsCaused f r old new road road' fault.Memory = Unit {0}
