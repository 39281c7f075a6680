-- Connections that are cut, one after the other.
use Rattle.std.specs.Prelude.{ℕ, ◌≡◌, ◌<◌, true, List, [], ◌∷◌}
use Rattle.hd_base.specs.declared.numbers.ConnId.{ConnId}
use Rattle.hd_base.specs.declared.roads.Roads as roads
use Rattle.road_traffic.specs.Showing.{Net, IsSane, RoadsShow}
use Rattle.world_stops.specs.WorldCuts.Cutting.{cut_net, RoadsCut}
use Rattle.world_stops.specs.Stopping.{is_among}

-- the roads' connections once these were cut
abbrev pub all_cut_net : Net → List ConnId → Net
all_cut_net net [] = net
all_cut_net net (c ∷ conns) = all_cut_net (cut_net net c.0 0 0) conns

-- Whatever connections the roads show, these among them: they are cut.
abbrev pub AllCutShows : {R I O : Type 0} → roads.Ghosts R I O → List ConnId → R → R → Type 0
AllCutShows r conns road road' =
    (net : Net) → IsSane net → RoadsShow r net road → ((c : ℕ) → is_among conns c ≡ true → c < net.conns)
    → RoadsCut r (all_cut_net net conns) road'
