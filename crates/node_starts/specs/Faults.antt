-- Why a node doesn't start.
use Rattle.std.specs.Prelude.{ℕ}
use Rattle.hd_base.specs.Faults.{FaultsIncreased}
use Rattle.hd_base.specs.declared.ends.RoadError.{RoadError}
use Rattle.hd_base.specs.declared.ends.RoadError.TheVariants as road
use Rattle.hd_base.specs.declared.roads.Roads as roads
use Rattle.hd_base.specs.declared.shelves.Shelf as shelves
use Rattle.node_restarts.specs.declared.faults.RestartFault.{RestartFault}
use Rattle.node_restarts.specs.declared.faults.RestartFault.TheVariants as restart
use Rattle.node_starts.specs.declared.faults.StartFault.{StartFault}
use Rattle.node_starts.specs.declared.faults.StartFault.TheVariants as fault

-- the fault of roads that failed
abbrev pub roads_fault : RoadError → StartFault
roads_fault road.Memory = fault.Memory
roads_fault road.NotListening = fault.RoadsFailed
roads_fault road.Failed = fault.RoadsFailed

-- the fault of books that weren't made again
abbrev pub shelf_fault : RestartFault → StartFault
shelf_fault restart.Files = fault.ShelfFailed
shelf_fault restart.Memory = fault.Memory

-- The roads failed, and their count rose; or memory ran out.
abbrev pub HasRoadsCause : ℕ → ℕ → StartFault → Type 0
HasRoadsCause before now fault.RoadsFailed = FaultsIncreased before now
HasRoadsCause before now fault.ShelfFailed = ⊥
HasRoadsCause before now fault.Memory = Unit {0}

-- The shelf failed, and its count rose; or memory ran out.
abbrev pub HasShelfCause : ℕ → ℕ → StartFault → Type 0
HasShelfCause before now fault.RoadsFailed = ⊥
HasShelfCause before now fault.ShelfFailed = FaultsIncreased before now
HasShelfCause before now fault.Memory = Unit {0}

-- What failed is that whose count rose, the roads' or the shelf's; else memory ran out.
abbrev pub HasStartCause : {S D R I O : Type 0} → shelves.Ghosts S D → roads.Ghosts R I O → S → S → R → R → StartFault →
    Type 0
HasStartCause s r shelf shelf' road road' fault.RoadsFailed = FaultsIncreased (r.faults road) (r.faults road')
HasStartCause s r shelf shelf' road road' fault.ShelfFailed = FaultsIncreased (s.faults shelf) (s.faults shelf')
HasStartCause s r shelf shelf' road road' fault.Memory = Unit {0}
