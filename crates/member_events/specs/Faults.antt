-- Why an event of a member isn't done, and what has risen then.
use Rattle.std.specs.Prelude.{◌≡◌, ◌⊎◌, ℕ, Bool, true, Option, Some, None}
use Rattle.hd_base.specs.Faults.{FaultsIncreased}
use Rattle.hd_base.specs.declared.ends.RoadError.{RoadError}
use Rattle.hd_base.specs.declared.ends.RoadError.TheVariants as error
use Rattle.hd_base.specs.declared.files.Files as files
use Rattle.hd_base.specs.declared.roads.Roads as roads
use Rattle.pipe_member.specs.ReplicaFiles.BookState.{BookState}
use Rattle.member_events.specs.declared.faults.MemberFault.{MemberFault}
use Rattle.member_events.specs.declared.faults.MemberFault.TheVariants as fault

-- why an exchange with the roads failed
abbrev pub road_fault : RoadError → MemberFault
road_fault error.Memory = fault.Memory
road_fault other = fault.RoadsFailed

-- An exchange with the roads failed: their count rose, or memory ran out.
abbrev pub IsRoadFault : ℕ → ℕ → MemberFault → Type 0
IsRoadFault before now fault.RoadsFailed = FaultsIncreased before now
IsRoadFault before now fault.Memory = Unit {0}
IsRoadFault before now other = ⊥

-- An end of this connection, or of the one to the mirror, if there is one, was brought back with a count that had risen.
abbrev pub HasRisen : (ℕ → Bool) → ℕ → Option ℕ → Type 0
HasRisen risen c None = risen c ≡ true
HasRisen risen c (Some d) = (risen c ≡ true) ⊎ (risen d ≡ true)

-- Each fault has its cause.
abbrev pub IsCaused : {F R I O : Type 0} → files.Ghosts F → roads.Ghosts R I O → ℕ → Option ℕ → BookState F →
    BookState F → R → R → MemberFault → Type 0
IsCaused f r c mirror book book' road road' fault.LinkFailed = HasRisen (r.risen road') c mirror
IsCaused f r c mirror book book' road road' fault.RoadsFailed = FaultsIncreased (r.faults road) (r.faults road')
IsCaused f r c mirror book book' road road' fault.FilesFailed =
    FaultsIncreased (f.faults book.drawer) (f.faults book'.drawer)
IsCaused f r c mirror book book' road road' fault.Memory = Unit {0}

-- The same of an event in which a failed call on files is no fault.
abbrev pub IsLinkCaused : {R I O : Type 0} → roads.Ghosts R I O → ℕ → Option ℕ → R → R → MemberFault → Type 0
IsLinkCaused r c mirror road road' fault.LinkFailed = HasRisen (r.risen road') c mirror
IsLinkCaused r c mirror road road' fault.RoadsFailed = FaultsIncreased (r.faults road) (r.faults road')
IsLinkCaused r c mirror road road' fault.FilesFailed = ⊥
IsLinkCaused r c mirror road road' fault.Memory = Unit {0}
