-- Why an event of a recovery isn't done, and what has risen then.
use Rattle.std.specs.Prelude.{◌≡◌, ℕ, true}
use Rattle.hd_base.specs.Faults.{FaultsIncreased}
use Rattle.hd_base.specs.declared.ends.RoadError.{RoadError}
use Rattle.hd_base.specs.declared.ends.RoadError.TheVariants as error
use Rattle.hd_base.specs.declared.roads.Roads as roads
use Rattle.recovery_events.specs.declared.faults.RecoveryFault.{RecoveryFault}
use Rattle.recovery_events.specs.declared.faults.RecoveryFault.TheVariants as fault

-- why an exchange with the roads failed
abbrev pub road_fault : RoadError → RecoveryFault
road_fault error.Memory = fault.Memory
road_fault other = fault.RoadsFailed

-- An exchange with the roads failed: their count rose, or memory ran out.
abbrev pub IsRoadFault : ℕ → ℕ → RecoveryFault → Type 0
IsRoadFault before now fault.RoadsFailed = FaultsIncreased before now
IsRoadFault before now fault.Memory = Unit {0}
IsRoadFault before now fault.LinkFailed = ⊥

-- Each fault has its cause: the end of this connection was brought back with a count that had risen, or the roads' count
-- rose.
abbrev pub IsCause : {R I O : Type 0} → roads.Ghosts R I O → ℕ → R → R → RecoveryFault → Type 0
IsCause r c road road' fault.LinkFailed = r.risen road' c ≡ true
IsCause r c road road' fault.RoadsFailed = FaultsIncreased (r.faults road) (r.faults road')
IsCause r c road road' fault.Memory = Unit {0}
