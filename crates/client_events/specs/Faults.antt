-- Why an event of a writer isn't done, and what has risen then.
use Rattle.std.specs.Prelude.{◌≡◌, ℕ, Bool, true, Option, Some, None}
use Rattle.hd_base.specs.Faults.{FaultsIncreased}
use Rattle.hd_base.specs.declared.ends.RoadError.{RoadError}
use Rattle.hd_base.specs.declared.ends.RoadError.TheVariants as error
use Rattle.hd_base.specs.declared.roads.Roads as roads
use Rattle.client_events.specs.declared.faults.ClientFault.{ClientFault}
use Rattle.client_events.specs.declared.faults.ClientFault.TheVariants as fault

-- why an exchange with the roads failed
abbrev pub road_fault : RoadError → ClientFault
road_fault error.Memory = fault.Memory
road_fault other = fault.RoadsFailed

-- An exchange with the roads failed: their count rose, or memory ran out.
abbrev pub IsRoadFault : ℕ → ℕ → ClientFault → Type 0
IsRoadFault before now fault.RoadsFailed = FaultsIncreased before now
IsRoadFault before now fault.Memory = Unit {0}
IsRoadFault before now other = ⊥

-- The end of the writer's connection was brought back with a count that had risen.
abbrev pub HasRisen : (ℕ → Bool) → Option ℕ → Type 0
HasRisen risen None = ⊥
HasRisen risen (Some c) = risen c ≡ true

-- Each fault has its cause.
abbrev pub IsCaused : {R I O : Type 0} → roads.Ghosts R I O → Option ℕ → R → R → ClientFault → Type 0
IsCaused r conn road road' fault.LinkFailed = HasRisen (r.risen road') conn
IsCaused r conn road road' fault.RoadsFailed = FaultsIncreased (r.faults road) (r.faults road')
IsCaused r conn road road' fault.Memory = Unit {0}
