-- The nodes of a play listen on the roads.
use Rattle.std.specs.Prelude.{◌≡◌, ◌+◌, ◌&&◌, ℕ, Bool, true, false, [], nat_le, nat_lt, option_map, Some}
use Rattle.hd_base.specs.Channels.{Plain, empty_channel, nothing_carried}
use Rattle.hd_base.specs.Faults.{FaultsIncreased}
use Rattle.hd_base.specs.declared.ends.RoadError.{RoadError}
use Rattle.hd_base.specs.declared.ends.RoadError.TheVariants as road
use Rattle.hd_base.specs.declared.roads.Roads as roads
use Rattle.hd_base.specs.declared.roads.TheConstants.{FIRST_PORT}
use Rattle.road_traffic.specs.Traffic.{no_traffic}
use Rattle.road_traffic.specs.Showing.{Net, RoadsShow, listened_net}
use Rattle.node_opening.specs.declared.faults.OpenFault.{OpenFault}
use Rattle.node_opening.specs.declared.faults.OpenFault.TheVariants as fault

-- Roads over plain memory on which nobody listens, nothing was dialled, no end's count has risen, and, where they tell it,
-- nothing was carried.
pub record AreUnused {R I O : Type 0} (r : roads.Ghosts R I O) (road : R) : Type 0 where
  pub plain : Plain
  pub is : r.plain road ≡ Some plain
  pub dialled : plain.dialled ≡ 0
  pub listening : (port : ℕ) → plain.listening port ≡ false
  pub waiting : (port : ℕ) → plain.waiting port ≡ []
  pub channels : (c : ℕ) (d : Bool) → plain.channels c d ≡ empty_channel
  pub none_risen : (c : ℕ) → r.risen road c ≡ false
  pub carried : r.carried road ≡ option_map (λ _. nothing_carried) (r.carried road)

-- the connections where nothing was dialled, and so many nodes listen, each on its port
abbrev pub opened_net : ℕ → Net
opened_net nodes = record {
  conns = 0;
  listens = λ port. nat_le FIRST_PORT port && nat_lt port (FIRST_PORT + nodes);
  waiting = λ _. [];
  traffic = λ _ _. no_traffic;
}

-- Whatever connections the roads show: a node's port is listened on.
abbrev pub ListensAt : {R I O : Type 0} → roads.Ghosts R I O → ℕ → R → R → Type 0
ListensAt r node old new = (net : Net) → RoadsShow r net old →
    RoadsShow r (listened_net net (FIRST_PORT + node) true) new

-- Where the roads were unused, so many nodes listen, and that is all.
abbrev pub ListenAll : {R I O : Type 0} → roads.Ghosts R I O → ℕ → R → R → Type 0
ListenAll r nodes old new = AreUnused r old → RoadsShow r (opened_net nodes) new

-- the fault of roads that failed
abbrev pub road_fault : RoadError → OpenFault
road_fault road.Memory = fault.Memory
road_fault road.NotListening = fault.RoadFault
road_fault road.Failed = fault.RoadFault

-- The roads failed, and their count rose; or memory ran out.
abbrev pub IsRoadFault : ℕ → ℕ → OpenFault → Type 0
IsRoadFault before now fault.RoadFault = FaultsIncreased before now
IsRoadFault before now fault.Memory = Unit {0}
IsRoadFault before now other = ⊥
