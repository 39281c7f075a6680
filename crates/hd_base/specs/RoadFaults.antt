-- When roads have failed.
use Rattle.std.specs.Prelude.{◌≡◌, ◌⊎◌, ℕ, true}
use Rattle.hd_base.specs.Faults.{FaultsIncreased}
use Rattle.hd_base.specs.declared.roads.Roads as roads

-- A link of theirs has risen, or their count.
abbrev pub RoadsFailed : {R I O : Type 0} → roads.Ghosts R I O → R → R → Type 0
RoadsFailed r road road' = ((c : ℕ) × (r.risen road' c ≡ true)) ⊎ FaultsIncreased (r.faults road) (r.faults road')
