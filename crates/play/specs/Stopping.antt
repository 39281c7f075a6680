-- What a node that stops makes of a play.
use Rattle.std.specs.Prelude.{◌≡◌, ℕ, true, ◌++◌, [], ◌∷◌, map, Result, Ok, Err}
use Rattle.hd_base.specs.declared.links.LinkIn as link_in
use Rattle.hd_base.specs.declared.links.LinkOut as link_out
use Rattle.hd_base.specs.declared.numbers.NodeId.{NodeId}
use Rattle.hd_base.specs.declared.roads.Roads as roads
use Rattle.world.specs.declared.events.Event.TheVariants as event
use Rattle.play_model.specs.Dues.{Queues}
use Rattle.play_model.specs.Recoveries.{stopped_at}
use Rattle.play_dues.specs.PlayReaders.Asks.{asks_of}
use Rattle.play_dues.specs.PlayRecoveries.Places.{recoveries_of}
use Rattle.play.specs.declared.faults.PlayFault.{PlayFault}
use Rattle.play.specs.declared.faults.PlayFault.TheVariants as fault
use Rattle.play.specs.declared.player.Player.{Player}
use Rattle.play.specs.Standing.{PlayStands, world_of}

-- The stop stands behind the events, and the player shows the world after it; the clients are as they were, readers ask what
-- they asked, and no primary at the node that hasn't begun ever does.
pub record HasStopped {F R I O : Type 0} (r : roads.Ghosts R I O) (i : link_in.Ghosts I) (o : link_out.Ghosts O)
    (nodes : ℕ) (queues : Queues) (node : NodeId) (old new : Player F I O) (road : R) : Type 0 where
  pub stands : PlayStands r i o nodes queues road new
  pub clients : new.clients ≡ old.clients
  pub asks : asks_of new.reads.clients.items ≡ asks_of old.reads.clients.items
  pub recovers : recoveries_of new.recoveries.clients.items ≡
      map (stopped_at node) (recoveries_of old.recoveries.clients.items)
  pub events : new.events.items ≡ old.events.items ++ event.Stop node ∷ []

abbrev pub StopEnds : {F R I O : Type 0} → roads.Ghosts R I O → link_in.Ghosts I → link_out.Ghosts O → ℕ → Queues →
    NodeId → Player F I O → Player F I O → R → Result (Unit {0}) PlayFault → Type 0
StopEnds r i o nodes queues node old new road' (Ok u) = HasStopped r i o nodes queues node old new road'
StopEnds r i o nodes queues node old new road' (Err why) = why ≡ fault.Memory

-- A node that runs stops, or memory ran out.
abbrev pub StopShows : {F R I O : Type 0} → roads.Ghosts R I O → link_in.Ghosts I → link_out.Ghosts O → NodeId →
    Player F I O → Player F I O → R → R → Result (Unit {0}) PlayFault → Type 0
StopShows r i o node old new road road' result =
    (nodes : ℕ) (queues : Queues) → PlayStands r i o nodes queues road old →
    (world_of nodes old).running node.0 ≡ true
    → StopEnds r i o nodes queues node old new road' result
