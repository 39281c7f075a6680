-- What the events of a recovery make of roads, book and end that show a world: what shows the world after the event.
use Rattle.std.specs.Prelude.{◌≡◌, ℕ, Bool, true, Option, Some, None, Result, Ok, Err}
use Rattle.hd_base.specs.declared.ends.Conn.{Conn}
use Rattle.hd_base.specs.declared.files.Files as files
use Rattle.hd_base.specs.declared.links.LinkIn as link_in
use Rattle.hd_base.specs.declared.links.LinkOut as link_out
use Rattle.hd_base.specs.declared.numbers.ConnId.{ConnId}
use Rattle.hd_base.specs.declared.roads.Roads as roads
use Rattle.block_recovery.specs.LinkMessages.Incomings.{IncomingState, nothing_received}
use Rattle.op_headers.specs.declared.ops.Op.{Op}
use Rattle.op_headers.specs.declared.ops.Op.TheVariants as op
use Rattle.op_headers.specs.declared.ops.RecoveryOp.{RecoveryOp}
use Rattle.block_recovery.specs.ReplicaFiles.BookState.{BookState}
use Rattle.block_recovery.specs.ReplicaFiles.Books.{replica_of}
use Rattle.road_traffic.specs.Showing.{Net}
use Rattle.world_orders.specs.World.Delivery.TheVariants as delivery
use Rattle.world_orders.specs.World.Event.TheVariants as event
use Rattle.world_orders.specs.World.Parts.{request, idle, recovers, ended_below}
use Rattle.world_orders.specs.World.Worlds.{World}
use Rattle.world_orders.specs.World.Connections.{Next, message, the_end, down_taken}
use Rattle.world_orders.specs.World.Nodes.{replica_at}
use Rattle.world_orders.specs.World.Events.{happens}
use Rattle.member_events.specs.WorldNets.Drawn.{ComesDown}
use Rattle.member_events.specs.WorldNets.Nets.{IsEndOf}
use Rattle.member_events.specs.WorldTexts.Texts.{SpellsText}
use Rattle.member_events.specs.Showing.{ShowsWorld, OthersStay}
use Rattle.member_events.specs.Texts.{SpellUp}
use Rattle.recovery_events.specs.declared.answering.Outcome.{Outcome}
use Rattle.recovery_events.specs.declared.answering.Outcome.TheVariants as ended
use Rattle.recovery_events.specs.declared.answering.Recovering.{Recovering}
use Rattle.recovery_events.specs.declared.faults.RecoveryFault.{RecoveryFault}
use Rattle.recovery_events.specs.Drawn.{recovery_next, asked_block}

-- AFTER AN EVENT

-- The end goes on, and roads, book and end show the world after the event; the other ends stay.
pub record GoesOnLeft {F R I O : Type 0} (r : roads.Ghosts R I O) (i : link_in.Ghosts I) (o : link_out.Ghosts O)
    (w : World) (net : Net) (v : World) (c b : ℕ) (book : BookState F) (road : R) (left : Recovering I O) : Type 0 where
  pub made : Net
  pub roads_are : ShowsWorld r v made road
  pub lower : v.lowers c ≡ recovers
  pub end_is : IsEndOf i o v made c true left.end
  pub received : left.incoming ≡ nothing_received
  pub replica : replica_of book ≡ replica_at v c b
  pub others : OthersStay i o w net v made c None

-- The connection has ended, and roads and book show the world after the event; the other ends stay.
pub record EndedLeft {F R I O : Type 0} (r : roads.Ghosts R I O) (i : link_in.Ghosts I) (o : link_out.Ghosts O)
    (w : World) (net : Net) (v : World) (c b : ℕ) (book : BookState F) (road : R) : Type 0 where
  pub made : Net
  pub roads_are : ShowsWorld r v made road
  pub lower : v.lowers c ≡ ended_below
  pub replica : replica_of book ≡ replica_at v c b
  pub others : OthersStay i o w net v made c None

abbrev pub LeftShows : {F R I O : Type 0} → roads.Ghosts R I O → link_in.Ghosts I → link_out.Ghosts O → World → Net →
    World → ℕ → ℕ → BookState F → R → Option (Recovering I O) → Type 0
LeftShows r i o w net v c b book road (Some left) = GoesOnLeft r i o w net v c b book road left
LeftShows r i o w net v c b book road None = EndedLeft r i o w net v c b book road

-- What is sent up in the event, or in the one in which a call on files fails, is spelled as it is written
-- (messages_are_written).
pub record SpellAnswers (w : World) (conn : ConnId) (answered : Bool) : Type 0 where
  pub done : SpellUp (happens w (event.Down conn answered)) conn.0
  pub faulted : SpellUp (happens w (event.Fault (delivery.Down conn))) conn.0

-- THE FIRST REQUEST

-- An end has taken this request, which came first on the connection; the roads show the world in which it was taken,
-- and the book is of the replica that it names at the node.
pub record RequestStands {F R I O : Type 0} (r : roads.Ghosts R I O) (i : link_in.Ghosts I) (o : link_out.Ghosts O)
    (w : World) (net : Net) (c : ℕ) (asked : RecoveryOp) (at_end : Conn I O) (incoming : IncomingState)
    (book : BookState F) (road : R) : Type 0 where
  pub comes : ComesDown w c (recovery_next asked)
  pub lower : w.lowers c ≡ idle
  pub roads_are : ShowsWorld r (down_taken w c (recovery_next asked)) net road
  pub end_is : IsEndOf i o (down_taken w c (recovery_next asked)) net c true at_end
  pub received : incoming ≡ nothing_received
  pub replica : replica_of book ≡ replica_at w c (asked_block asked)

-- How the event ends; where a call on the replica's files failed it is another one.
abbrev pub RequestEnds : {F R I O : Type 0} → roads.Ghosts R I O → link_in.Ghosts I → link_out.Ghosts O → World → Net →
    ConnId → Bool → RecoveryOp → BookState F → R → Result (Outcome (Recovering I O)) RecoveryFault → Type 0
RequestEnds r i o w net conn answered asked book road (Ok (ended.Done left)) =
    GoesOnLeft r i o (down_taken w conn.0 (recovery_next asked)) net (happens w (event.Down conn answered)) conn.0
    (asked_block asked) book road left
RequestEnds r i o w net conn answered asked book road (Ok (ended.Faulted left)) =
    GoesOnLeft r i o (down_taken w conn.0 (recovery_next asked)) net (happens w (event.Fault (delivery.Down conn)))
    conn.0 (asked_block asked) book road left
RequestEnds r i o w net conn answered asked book road (Err why) = Unit {0}

abbrev pub RequestShows : {F R I O : Type 0} → files.Ghosts F → roads.Ghosts R I O → link_in.Ghosts I →
    link_out.Ghosts O → RecoveryOp → Conn I O → IncomingState → BookState F → BookState F → R → R →
    Result (Outcome (Recovering I O)) RecoveryFault → Type 0
RequestShows f r i o asked at_end incoming book book' road road' result =
    (w : World) (net : Net) (conn : ConnId) (answered : Bool) →
    RequestStands r i o w net conn.0 asked at_end incoming book road → SpellAnswers w conn answered
    → RequestEnds r i o w net conn answered asked book' road' result

-- FURTHER REQUESTS

-- An end of a connection answers a primary; end and roads show that world, and the book is of this block's replica at
-- the node.
pub record RecoveringStands {F R I O : Type 0} (r : roads.Ghosts R I O) (i : link_in.Ghosts I) (o : link_out.Ghosts O)
    (w : World) (net : Net) (c b : ℕ) (book : BookState F) (old : Recovering I O) (road : R) : Type 0 where
  pub roads_are : ShowsWorld r w net road
  pub lower : w.lowers c ≡ recovers
  pub end_is : IsEndOf i o w net c true old.end
  pub received : old.incoming ≡ nothing_received
  pub replica : replica_of book ≡ replica_at w c b

-- A request of a recovery names this block.
abbrev pub NamesBlock : ℕ → Op → Type 0
NamesBlock b (op.Recovery asked) = asked_block asked ≡ b
NamesBlock b other = Unit {0}

-- A request that is spelled as it is written, and is of this block if it is one of a recovery; or the end.
abbrev pub IsRequestNext : ℕ → Next → Type 0
IsRequestNext b (message (request asked)) = SpellsText (request asked) × NamesBlock b asked
IsRequestNext b (message other) = ⊥
IsRequestNext b the_end = Unit {0}

-- This stands next for the end. That it is a request or the end, is spelled as it is written, and names the block of
-- the connection's first request, holds after all events (recoveries_come_in_order, messages_are_written,
-- recoveries_name_one_block).
pub record CanRecover (w : World) (conn : ConnId) (answered : Bool) (b : ℕ) (x : Next) : Type 0 where
  pub comes : ComesDown w conn.0 x
  pub next : IsRequestNext b x
  pub spelled : SpellAnswers w conn answered

-- How the event ends; where a call on the replica's files failed it is another one, after which the end goes on.
abbrev pub DownEnds : {F R I O : Type 0} → roads.Ghosts R I O → link_in.Ghosts I → link_out.Ghosts O → World → Net →
    ConnId → Bool → ℕ → BookState F → R → Result (Outcome (Option (Recovering I O))) RecoveryFault → Type 0
DownEnds r i o w net conn answered b book road (Ok (ended.Done left)) =
    LeftShows r i o w net (happens w (event.Down conn answered)) conn.0 b book road left
DownEnds r i o w net conn answered b book road (Ok (ended.Faulted (Some left))) =
    GoesOnLeft r i o w net (happens w (event.Fault (delivery.Down conn))) conn.0 b book road left
DownEnds r i o w net conn answered b book road (Ok (ended.Faulted None)) = ⊥
DownEnds r i o w net conn answered b book road (Err why) = Unit {0}

abbrev pub DownShows : {F R I O : Type 0} → files.Ghosts F → roads.Ghosts R I O → link_in.Ghosts I →
    link_out.Ghosts O → Recovering I O → BookState F → BookState F → R → R →
    Result (Outcome (Option (Recovering I O))) RecoveryFault → Type 0
DownShows f r i o old book book' road road' result =
    (w : World) (net : Net) (conn : ConnId) (answered : Bool) (b : ℕ) (x : Next) →
    RecoveringStands r i o w net conn.0 b book old road → CanRecover w conn answered b x
    → DownEnds r i o w net conn answered b book' road' result
