-- What a node that starts again makes of a play.
use Rattle.std.specs.Prelude.{◌≡◌, ◌<◌, ℕ, false, ◌++◌, [], ◌∷◌, Result, Ok, Err}
use Rattle.hd_base.specs.Faults.{FaultsIncreased}
use Rattle.hd_base.specs.declared.files.Files as files
use Rattle.hd_base.specs.declared.links.LinkIn as link_in
use Rattle.hd_base.specs.declared.links.LinkOut as link_out
use Rattle.hd_base.specs.declared.numbers.NodeId.{NodeId}
use Rattle.hd_base.specs.declared.roads.Roads as roads
use Rattle.hd_base.specs.declared.shelves.Shelf as shelves
use Rattle.world.specs.declared.events.Event.TheVariants as event
use Rattle.play_model.specs.Dues.{Queues}
use Rattle.node_starts.specs.Books.{NodeTells}
use Rattle.play_dues.specs.PlayReaders.Asks.{asks_of}
use Rattle.play_dues.specs.PlayRecoveries.Places.{recoveries_of}
use Rattle.play.specs.declared.faults.PlayFault.{PlayFault}
use Rattle.play.specs.declared.faults.PlayFault.TheVariants as fault
use Rattle.play.specs.declared.player.Player.{Player}
use Rattle.hd_base.specs.RoadFaults.{RoadsFailed}
use Rattle.play.specs.Standing.{PlayStands, world_of}

-- The restart, of which nothing need be said, stands behind the events, and the player shows the world after it; the
-- clients are as they were, readers ask what they asked, and primaries are to recover what they were to.
pub record HasStarted {F R I O : Type 0} (r : roads.Ghosts R I O) (i : link_in.Ghosts I) (o : link_out.Ghosts O)
    (nodes : ℕ) (queues : Queues) (node : NodeId) (old new : Player F I O) (road : R) : Type 0 where
  pub stands : PlayStands r i o nodes queues road new
  pub clients : new.clients ≡ old.clients
  pub asks : asks_of new.reads.clients.items ≡ asks_of old.reads.clients.items
  pub recovers : recoveries_of new.recoveries.clients.items ≡ recoveries_of old.recoveries.clients.items
  pub events : new.events.items ≡ old.events.items ++ event.Restart node [] ∷ []

abbrev pub StartEnds : {F R I O : Type 0} → roads.Ghosts R I O → link_in.Ghosts I → link_out.Ghosts O → ℕ → Queues →
    NodeId → Player F I O → Player F I O → R → Result (Unit {0}) PlayFault → Type 0
StartEnds r i o nodes queues node old new road' (Ok u) = HasStarted r i o nodes queues node old new road'
StartEnds r i o nodes queues node old new road' (Err why) = Unit {0}

-- A node that doesn't run starts again, where its shelf and its drawers tell their files.
abbrev pub StartShows : {S F R I O : Type 0} → shelves.Ghosts S F → files.Ghosts F → roads.Ghosts R I O →
    link_in.Ghosts I → link_out.Ghosts O → NodeId → S → Player F I O → Player F I O → R → R →
    Result (Unit {0}) PlayFault → Type 0
StartShows s f r i o node shelf old new road road' result =
    (nodes : ℕ) (queues : Queues) → PlayStands r i o nodes queues road old → node.0 < nodes →
    (world_of nodes old).running node.0 ≡ false → NodeTells s f node shelf old.nodes
    → StartEnds r i o nodes queues node old new road' result

-- Each fault has its cause: the roads failed, or the node's shelf did, or memory ran out.
abbrev pub IsStartCause : {S D R I O : Type 0} → shelves.Ghosts S D → roads.Ghosts R I O → NodeId → S → S → R → R →
    PlayFault → Type 0
IsStartCause s r node shelf shelf' road road' fault.RoadFault = RoadsFailed r road road'
IsStartCause s r node shelf shelf' road road' (fault.ShelfFault at) =
    (at ≡ node) × FaultsIncreased (s.faults shelf) (s.faults shelf')
IsStartCause s r node shelf shelf' road road' fault.Memory = Unit {0}
