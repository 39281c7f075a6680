-- A connection of a world, and of roads, is cut.
use Rattle.std.specs.Prelude.{◌≡◌, ℕ, ◌+◌, ◌<◌, Bool, cond, min, length, Some, option_map}
use Rattle.hd_base.specs.declared.ends.Conn.{Conn}
use Rattle.hd_base.specs.declared.links.LinkIn as link_in
use Rattle.hd_base.specs.declared.links.LinkOut as link_out
use Rattle.hd_base.specs.declared.numbers.ConnId.{ConnId}
use Rattle.hd_base.specs.declared.roads.Roads as roads
use Rattle.fault_ports.specs.Cuts.{with_cut}
use Rattle.road_traffic.specs.Showing.{Net, IsSane, RoadsShow, with_traffic}
use Rattle.road_traffic.specs.Traffic.{Traffic, changed}
use Rattle.world_nets.specs.World.Direction.TheVariants as direction
use Rattle.world_nets.specs.World.Event.TheVariants as event
use Rattle.world_nets.specs.World.Connections.{lesser, lost_marks}
use Rattle.world_nets.specs.World.Events.{happens}
use Rattle.world_nets.specs.World.Worlds.{World, put}
use Rattle.world_nets.specs.Nets.{IsNetOf, IsEndOf}

-- CONNECTIONS

-- The end is put so many messages behind those taken, or behind all that were sent where these are fewer, but no later than where it stands.
abbrev pub cut_traffic : ℕ → Traffic → Traffic
cut_traffic more t = record t { end = Some (lesser (min (t.taken + more) (length t.sent)) t.end) }

-- one direction of a connection that is cut behind so many messages down, and up
abbrev pub cut_direction : ℕ → ℕ → Bool → Traffic → Traffic
cut_direction down up d t = cut_traffic (cond d down up) t

abbrev pub cut_net : Net → ℕ → ℕ → ℕ → Net
cut_net net c down up = with_traffic net (changed net.traffic c (cut_direction down up))

-- what is left of the roads' connections once one was cut
pub record RoadsCut {R I O : Type 0} (r : roads.Ghosts R I O) (net : Net) (road : R) : Type 0 where
  pub sane : IsSane net
  pub shows : RoadsShow r net road

-- The roads hold what they held with one connection cut, and have carried as much.
pub record CutsRoads {R I O : Type 0} (r : roads.Ghosts R I O) (c down up : ℕ) (road road' : R) : Type 0 where
  pub plain : r.plain road' ≡ option_map (λ p. with_cut p c down up) (r.plain road)
  pub carried : r.carried road' ≡ r.carried road

abbrev pub CutsShow : (R I O : Type 0) → roads.Ghosts R I O → Type 0
CutsShow R I O r = (net : Net) (c down up : ℕ) (road road' : R) → CutsRoads r c down up road road' → IsSane net →
    RoadsShow r net road → c < net.conns
    → RoadsCut r (cut_net net c down up) road'

-- WORLDS

-- the world after what was on its way on a connection was lost, behind so many messages down, and up
abbrev pub cut_world : World → ConnId → ℕ → ℕ → World
cut_world w c down up =
    happens (happens w (event.Lost c direction.Down down)) (event.Lost c direction.Up up)

-- Only the marks of this connection have changed, and what the world says of its last event.
pub record IsCut (w v : World) (c down up : ℕ) : Type 0 where
  pub is : v ≡ record w {
    down_marks = put w.down_marks c (lost_marks (w.downs c) down (w.down_marks c));
    up_marks = put w.up_marks c (lost_marks (w.ups c) up (w.up_marks c));
    last = v.last;
    last_answer = v.last_answer;
  }

pub record CutsNet (w v : World) (net : Net) (c down up : ℕ) : Type 0 where
  pub is : IsCut w v c down up
  pub net_is : IsNetOf w net → IsNetOf v (cut_net net c down up)

abbrev pub CutsAreLosses : Type 0
CutsAreLosses = (w : World) (net : Net) (conn : ConnId) (down up : ℕ) → conn.0 < w.next_conn →
    CutsNet w (cut_world w conn down up) net conn.0 down up

abbrev pub EndsStayInCuts : {I O : Type 0} → link_in.Ghosts I → link_out.Ghosts O → Type 0
EndsStayInCuts {I} {O} i o =
    (w v : World) (net : Net) (c down up d : ℕ) (lower : Bool) (at_end : Conn I O) → IsCut w v c down up →
    IsEndOf i o w net d lower at_end
    → IsEndOf i o v (cut_net net c down up) d lower at_end
