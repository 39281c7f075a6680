-- A node takes a request to read.
use Rattle.std.specs.Prelude.{◌≡◌, ℕ, Bool, true, Result, Ok, Err}
use Rattle.hd_base.specs.Faults.{FaultsIncreased}
use Rattle.hd_base.specs.declared.ends.Conn.{Conn}
use Rattle.hd_base.specs.declared.files.Files as files
use Rattle.hd_base.specs.declared.links.LinkIn as link_in
use Rattle.hd_base.specs.declared.links.LinkOut as link_out
use Rattle.hd_base.specs.declared.numbers.ConnId.{ConnId}
use Rattle.hd_base.specs.declared.roads.Roads as roads
use Rattle.op_headers.specs.declared.ops.ReadOp.{ReadOp}
use Rattle.member_events.specs.ReplicaFiles.BookState.{BookState}
use Rattle.member_events.specs.ReplicaFiles.Books.{replica_of}
use Rattle.road_traffic.specs.Showing.{Net}
use Rattle.member_events.specs.World.Delivery.TheVariants as delivery
use Rattle.member_events.specs.World.Event.TheVariants as event
use Rattle.member_events.specs.World.Parts.{idle}
use Rattle.member_events.specs.World.Worlds.{World}
use Rattle.member_events.specs.World.Connections.{down_taken}
use Rattle.member_events.specs.World.Nodes.{replica_at}
use Rattle.member_events.specs.World.Events.{happens}
use Rattle.member_events.specs.WorldNets.Drawn.{ComesDown}
use Rattle.member_events.specs.WorldNets.Nets.{IsEndOf}
use Rattle.member_events.specs.Showing.{ShowsWorld}
use Rattle.member_events.specs.Texts.{SpellUp}
use Rattle.serving_events.specs.declared.faults.ServeFault.{ServeFault}
use Rattle.serving_events.specs.declared.steps.Outcome.{Outcome}
use Rattle.serving_events.specs.declared.steps.Outcome.TheVariants as outcome
use Rattle.serving_events.specs.Drawn.{read_next, block_of}
use Rattle.serving_events.specs.Faults.{IsCausedInRequest}
use Rattle.serving_events.specs.Showing.{GoesOn, HasEnded}

-- BEFORE THE EVENT

-- An end has taken this request, which came on the connection; the roads show the world in which it was taken, and the
-- book is of the replica that it names at the node.
pub record RequestStands {F R I O : Type 0} (r : roads.Ghosts R I O) (i : link_in.Ghosts I) (o : link_out.Ghosts O)
    (w : World) (net : Net) (c : ℕ) (op : ReadOp) (book : BookState F) (end : Conn I O) (road : R) : Type 0 where
  pub comes : ComesDown w c (read_next op)
  pub lower : w.lowers c ≡ idle
  pub roads_are : ShowsWorld r (down_taken w c (read_next op)) net road
  pub end_is : IsEndOf i o (down_taken w c (read_next op)) net c true end
  pub replica : replica_of book ≡ replica_at w c (block_of op)

-- What is answered is spelled as it is written (messages_are_written).
pub record CanServe (w : World) (conn : ConnId) : Type 0 where
  pub answers : (answered : Bool) → SpellUp (happens w (event.Down conn answered)) conn.0
  pub refuses : SpellUp (happens w (event.Fault (delivery.Down conn))) conn.0

-- AFTER THE EVENT

-- the world in which the request was taken
abbrev pub taken_by : World → ℕ → ReadOp → World
taken_by w c op = down_taken w c (read_next op)

-- A call on the replica's files failed, and the drawer's count rose: the world is that of the fault.
pub record RequestFaults {F R I O : Type 0} (f : files.Ghosts F) (r : roads.Ghosts R I O) (i : link_in.Ghosts I)
    (o : link_out.Ghosts O) (w : World) (net : Net) (conn : ConnId) (op : ReadOp) (book book' : BookState F) (road' : R)
    : Type 0 where
  pub rose : FaultsIncreased (f.faults book.drawer) (f.faults book'.drawer)
  pub ends : HasEnded r i o (taken_by w conn.0 op) net (happens w (event.Fault (delivery.Down conn))) conn.0
      (block_of op) book' road'

-- How it ends; a fault has its cause.
abbrev pub RequestEnds : {F R I O : Type 0} → files.Ghosts F → roads.Ghosts R I O → link_in.Ghosts I →
    link_out.Ghosts O → World → Net → ConnId → Bool → ReadOp → BookState F → BookState F → R → R →
    Result (Outcome I O) ServeFault → Type 0
RequestEnds f r i o w net conn answered op book book' road road' (Ok (outcome.Serves read)) =
    GoesOn r i o (taken_by w conn.0 op) net (happens w (event.Down conn answered)) conn.0 (block_of op) book' road' read
RequestEnds f r i o w net conn answered op book book' road road' (Ok outcome.Ended) =
    HasEnded r i o (taken_by w conn.0 op) net (happens w (event.Down conn answered)) conn.0 (block_of op) book' road'
RequestEnds f r i o w net conn answered op book book' road road' (Ok outcome.Faulted) =
    RequestFaults f r i o w net conn op book book' road'
RequestEnds f r i o w net conn answered op book book' road road' (Err why) =
    IsCausedInRequest f r conn.0 book road road' why

abbrev pub RequestShows : {F R I O : Type 0} → files.Ghosts F → roads.Ghosts R I O → link_in.Ghosts I →
    link_out.Ghosts O → ReadOp → Conn I O → BookState F → BookState F → R → R → Result (Outcome I O) ServeFault → Type 0
RequestShows f r i o op end book book' road road' result =
    (w : World) (net : Net) (conn : ConnId) (answered : Bool) →
    RequestStands r i o w net conn.0 op book end road → CanServe w conn
    → RequestEnds f r i o w net conn answered op book book' road road' result
