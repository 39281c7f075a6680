-- What the event of a primary does to the roads.
use Rattle.hd_base.specs.declared.roads.Roads as roads
use Rattle.primary_events.specs.MemberEvents.Roads.{RoadsPass}
use Rattle.play_primaries.specs.declared.clients.PrimaryState.{PrimaryState}
use Rattle.play_primaries.specs.Clients.{PrimaryIsReady}

-- The roads know what they knew, and their count of faults hasn't fallen, however the event ends; where the primary
-- leads, they know the ends of its connections.
pub record PrimaryPasses {R I O : Type 0} (r : roads.Ghosts R I O) (road road' : R) (new : PrimaryState I O) : Type 0
  where
    pub pass : RoadsPass r road road'
    pub ready : PrimaryIsReady (r.plain road') new
