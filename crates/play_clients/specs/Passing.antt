-- What a client's event does to the roads.
use Rattle.std.specs.Prelude.{IfOk, Result}
use Rattle.hd_base.specs.declared.roads.Roads as roads
use Rattle.client_events.specs.MemberEvents.Roads.{RoadsPass}
use Rattle.client_events.specs.declared.faults.ClientFault.{ClientFault}
use Rattle.client_events.specs.Showing.{PipeIsKnown}
use Rattle.play_clients.specs.declared.clients.Client.{Client}

-- The roads know what they knew, and their count of faults hasn't fallen, however the event ends; the connection that it
-- leaves is known to them.
pub record ClientPasses {R I O A : Type 0} (r : roads.Ghosts R I O) (road road' : R) (new : Client I O)
    (result : Result A ClientFault) : Type 0 where
  pub pass : RoadsPass r road road'
  pub known : IfOk result (λ _. PipeIsKnown (r.plain road') new.pipe)
