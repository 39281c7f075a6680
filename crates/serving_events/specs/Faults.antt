-- Why an event of a node that serves a read isn't done, and what has risen then.
use Rattle.std.specs.Prelude.{◌≡◌, ℕ, true, None}
use Rattle.hd_base.specs.Faults.{FaultsIncreased}
use Rattle.hd_base.specs.declared.ends.RoadError.{RoadError}
use Rattle.hd_base.specs.declared.ends.RoadError.TheVariants as error
use Rattle.hd_base.specs.declared.files.Files as files
use Rattle.hd_base.specs.declared.roads.Roads as roads
use Rattle.member_events.specs.ReplicaFiles.BookState.{BookState}
use Rattle.serving_events.specs.declared.faults.ServeFault.{ServeFault}
use Rattle.serving_events.specs.declared.faults.ServeFault.TheVariants as fault

-- why an exchange with the roads failed
abbrev pub road_fault : RoadError → ServeFault
road_fault error.Memory = fault.Memory
road_fault other = fault.RoadsFailed

-- An exchange with the roads failed: their count rose, or memory ran out.
abbrev pub IsRoadFault : ℕ → ℕ → ServeFault → Type 0
IsRoadFault before now fault.RoadsFailed = FaultsIncreased before now
IsRoadFault before now fault.Memory = Unit {0}
IsRoadFault before now other = ⊥

-- Each fault has its cause: the end was brought back with a count that had risen, the roads' count rose, or the files are
-- not observable.
abbrev pub IsCaused : {F R I O : Type 0} → files.Ghosts F → roads.Ghosts R I O → ℕ → BookState F → R → R → ServeFault →
    Type 0
IsCaused f r c book road road' fault.LinkFailed = r.risen road' c ≡ true
IsCaused f r c book road road' fault.RoadsFailed = FaultsIncreased (r.faults road) (r.faults road')
IsCaused f r c book road road' fault.BytesMissing = f.files book.drawer ≡ None
IsCaused f r c book road road' fault.Memory = Unit {0}

-- The same of a request, for which no bytes can be missing.
abbrev pub IsCausedInRequest : {F R I O : Type 0} → files.Ghosts F → roads.Ghosts R I O → ℕ → BookState F → R → R →
    ServeFault → Type 0
IsCausedInRequest f r c book road road' fault.BytesMissing = ⊥
IsCausedInRequest f r c book road road' other = IsCaused f r c book road road' other
