-- The end of a read that is served takes what stands next.
use Rattle.std.specs.Prelude.{◌≡◌, ℕ, Bool, None, Result, Ok, Err}
use Rattle.hd_base.specs.declared.links.LinkIn as link_in
use Rattle.hd_base.specs.declared.links.LinkOut as link_out
use Rattle.hd_base.specs.declared.numbers.ConnId.{ConnId}
use Rattle.hd_base.specs.declared.roads.Roads as roads
use Rattle.visible_read.specs.ReadCore.Servings.{ServingState}
use Rattle.road_traffic.specs.Showing.{Net}
use Rattle.member_events.specs.World.Event.TheVariants as event
use Rattle.member_events.specs.World.Parts.{serves, ended_below}
use Rattle.member_events.specs.World.Worlds.{World}
use Rattle.member_events.specs.World.Connections.{Next}
use Rattle.member_events.specs.World.Nodes.{replica_at}
use Rattle.member_events.specs.World.Events.{happens}
use Rattle.member_events.specs.WorldNets.Drawn.{ComesDown}
use Rattle.member_events.specs.Showing.{ShowsWorld, OthersStay}
use Rattle.serving_events.specs.declared.faults.ServeFault.{ServeFault}
use Rattle.serving_events.specs.declared.steps.ServedRead.{ServedRead}
use Rattle.serving_events.specs.Faults.{IsRoadFault}
use Rattle.serving_events.specs.Showing.{ReadShows}

-- A read that a node of the world serves, for whose end this stands next, and the roads show that world.
pub record EndStands {R I O : Type 0} (r : roads.Ghosts R I O) (i : link_in.Ghosts I) (o : link_out.Ghosts O)
    (w : World) (net : Net) (c b : ℕ) (s : ServingState) (x : Next) (read : ServedRead I O) (road : R) : Type 0 where
  pub comes : ComesDown w c x
  pub roads_are : ShowsWorld r w net road
  pub lower : w.lowers c ≡ serves b s
  pub shows : ReadShows i o w net c b s read

-- The connection has ended: the roads show the world after the event, in which the replica and the other ends stay.
pub record ReadEnds {R I O : Type 0} (r : roads.Ghosts R I O) (i : link_in.Ghosts I) (o : link_out.Ghosts O)
    (w : World) (net : Net) (v : World) (c b : ℕ) (road : R) : Type 0 where
  pub made : Net
  pub roads_are : ShowsWorld r v made road
  pub lower : v.lowers c ≡ ended_below
  pub replica : replica_at v c b ≡ replica_at w c b
  pub others : OthersStay i o w net v made c None

-- How it ends: where it isn't done, the roads' count rose, or memory ran out.
abbrev pub EndEnds : {R I O : Type 0} → roads.Ghosts R I O → link_in.Ghosts I → link_out.Ghosts O → World → Net →
    ConnId → Bool → ℕ → R → R → Result (Unit {0}) ServeFault → Type 0
EndEnds r i o w net conn answered b road road' (Ok u) =
    ReadEnds r i o w net (happens w (event.Down conn answered)) conn.0 b road'
EndEnds r i o w net conn answered b road road' (Err why) = IsRoadFault (r.faults road) (r.faults road') why

abbrev pub EndShows : {R I O : Type 0} → roads.Ghosts R I O → link_in.Ghosts I → link_out.Ghosts O → ServedRead I O →
    R → R → Result (Unit {0}) ServeFault → Type 0
EndShows r i o read road road' result =
    (w : World) (net : Net) (conn : ConnId) (answered : Bool) (b : ℕ) (s : ServingState) (x : Next) →
    EndStands r i o w net conn.0 b s x read road
    → EndEnds r i o w net conn answered b road road' result
