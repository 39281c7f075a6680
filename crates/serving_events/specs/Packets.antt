-- A node sends the next packet of a read that it serves.
use Rattle.std.specs.Prelude.{◌≡◌, ℕ, not, Bool, true, false, Option, Some, IfSome, Result, Ok, Err}
use Rattle.hd_base.specs.Faults.{FaultsIncreased}
use Rattle.hd_base.specs.declared.files.Files as files
use Rattle.hd_base.specs.declared.links.LinkIn as link_in
use Rattle.hd_base.specs.declared.links.LinkOut as link_out
use Rattle.hd_base.specs.declared.numbers.ConnId.{ConnId}
use Rattle.hd_base.specs.declared.roads.Roads as roads
use Rattle.replica_core.specs.declared.events.Event.{Event}
use Rattle.member_events.specs.ReplicaFiles.BookState.{BookState}
use Rattle.visible_read.specs.ReadCore.Servings.{ServingState, next_call}
use Rattle.road_traffic.specs.Showing.{Net}
use Rattle.visible_read.specs.declared.answering.Served.{Served}
use Rattle.visible_read.specs.declared.answering.Served.TheVariants as served
use Rattle.member_events.specs.World.Delivery.TheVariants as delivery
use Rattle.member_events.specs.World.Event.TheVariants as event
use Rattle.member_events.specs.World.Worlds.{World}
use Rattle.member_events.specs.World.Connections.{is_served}
use Rattle.member_events.specs.World.Events.{happens}
use Rattle.serving_events.specs.declared.faults.ServeFault.{ServeFault}
use Rattle.serving_events.specs.declared.faults.ServeFault.TheVariants as fault
use Rattle.serving_events.specs.declared.steps.Outcome.{Outcome}
use Rattle.serving_events.specs.declared.steps.Outcome.TheVariants as outcome
use Rattle.serving_events.specs.declared.steps.ServedRead.{ServedRead}
use Rattle.serving_events.specs.Faults.{IsCaused}
use Rattle.serving_events.specs.Showing.{ReadStands, GoesOn, HasEnded}

-- Fewer bytes were read than the replica has, though it didn't break.
abbrev pub is_short : Option Served → Bool → Bool
is_short (Some served.File) breaks = not breaks
is_short other breaks = false

-- The next packet has too few bytes, or memory ran out.
abbrev pub IsMissing : ServeFault → Type 0
IsMissing fault.BytesMissing = Unit {0}
IsMissing fault.Memory = Unit {0}
IsMissing other = ⊥

-- The read's node runs, and this call is next on the book.
pub record CanSend (w : World) (c : ℕ) (s : ServingState) (e : Event) : Type 0 where
  pub served : is_served w c ≡ true
  pub call : next_call s ≡ Some e

-- A call on the replica's files failed, and the drawer's count rose: the world is that of the fault.
pub record PacketFaults {F R I O : Type 0} (f : files.Ghosts F) (r : roads.Ghosts R I O) (i : link_in.Ghosts I)
    (o : link_out.Ghosts O) (w : World) (net : Net) (conn : ConnId) (b : ℕ) (book book' : BookState F) (road' : R) :
    Type 0 where
  pub rose : FaultsIncreased (f.faults book.drawer) (f.faults book'.drawer)
  pub ends : HasEnded r i o w net (happens w (event.Fault (delivery.Ready conn))) conn.0 b book' road'

-- How it ends; a fault has its cause. A packet is the world's where the replica's files are observable.
abbrev pub PacketEnds : {F R I O : Type 0} → files.Ghosts F → roads.Ghosts R I O → link_in.Ghosts I →
    link_out.Ghosts O → World → Net → ConnId → ℕ → BookState F → BookState F → R → R →
    Result (Outcome I O) ServeFault → Type 0
PacketEnds f r i o w net conn b book book' road road' (Ok (outcome.Serves read)) = IfSome (f.files book.drawer)
    (λ _. GoesOn r i o w net (happens w (event.Ready conn)) conn.0 b book' road' read)
PacketEnds f r i o w net conn b book book' road road' (Ok outcome.Ended) =
    HasEnded r i o w net (happens w (event.Ready conn)) conn.0 b book' road'
PacketEnds f r i o w net conn b book book' road road' (Ok outcome.Faulted) =
    PacketFaults f r i o w net conn b book book' road'
PacketEnds f r i o w net conn b book book' road road' (Err why) = IsCaused f r conn.0 book road road' why

abbrev pub PacketShows : {F R I O : Type 0} → files.Ghosts F → roads.Ghosts R I O → link_in.Ghosts I →
    link_out.Ghosts O → ServedRead I O → BookState F → BookState F → R → R → Result (Outcome I O) ServeFault → Type 0
PacketShows f r i o read book book' road road' result =
    (w : World) (net : Net) (conn : ConnId) (b : ℕ) (s : ServingState) (e : Event) →
    ReadStands r i o w net conn.0 b s book read road → CanSend w conn.0 s e
    → PacketEnds f r i o w net conn b book book' road road' result
