-- Why an event of a primary isn't done, and what has risen then.
use Rattle.std.specs.Prelude.{◌≡◌, ℕ, true}
use Rattle.hd_base.specs.Faults.{FaultsIncreased}
use Rattle.hd_base.specs.declared.ends.RoadError.{RoadError}
use Rattle.hd_base.specs.declared.ends.RoadError.TheVariants as error
use Rattle.hd_base.specs.declared.roads.Roads as roads
use Rattle.primary_events.specs.declared.faults.PrimaryFault.{PrimaryFault}
use Rattle.primary_events.specs.declared.faults.PrimaryFault.TheVariants as fault

-- why a call on the roads failed
abbrev pub road_fault : RoadError → PrimaryFault
road_fault error.Memory = fault.Memory
road_fault other = fault.RoadsFailed

-- A call on the roads failed: their count rose, or memory ran out.
abbrev pub IsRoadFault : ℕ → ℕ → PrimaryFault → Type 0
IsRoadFault before now fault.RoadsFailed = FaultsIncreased before now
IsRoadFault before now fault.Memory = Unit {0}
IsRoadFault before now other = ⊥

-- Each fault has its cause: the end of this connection was brought back with a count that had risen, or the roads'
-- count rose.
abbrev pub IsCaused : {R I O : Type 0} → roads.Ghosts R I O → ℕ → R → R → PrimaryFault → Type 0
IsCaused r conn road road' fault.LinkFailed = r.risen road' conn ≡ true
IsCaused r conn road road' fault.RoadsFailed = FaultsIncreased (r.faults road) (r.faults road')
IsCaused r conn road road' fault.Memory = Unit {0}
