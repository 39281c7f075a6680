-- What the events of a node that answers a primary make of the lower end, the books and roads that show a world.
use Rattle.std.specs.Prelude.{◌≡◌, ℕ, Bool, true, false, List, slice_get, Some, None, Result, Ok, Err}
use Rattle.hd_base.specs.declared.ends.Conn.{Conn}
use Rattle.hd_base.specs.declared.files.Files as files
use Rattle.hd_base.specs.declared.links.LinkIn as link_in
use Rattle.hd_base.specs.declared.links.LinkOut as link_out
use Rattle.hd_base.specs.declared.numbers.BlockId.{BlockId}
use Rattle.hd_base.specs.declared.numbers.ConnId.{ConnId}
use Rattle.hd_base.specs.declared.roads.Roads as roads
use Rattle.recovery_events.specs.LinkMessages.Incomings.{nothing_received}
use Rattle.op_headers.specs.declared.ops.Op.TheVariants as op
use Rattle.op_headers.specs.declared.ops.RecoveryOp.{RecoveryOp}
use Rattle.recovery_events.specs.ReplicaFiles.BookState.{BookState}
use Rattle.road_traffic.specs.Showing.{Net}
use Rattle.world_requests.specs.World.Delivery.TheVariants as delivery
use Rattle.world_requests.specs.World.Event.TheVariants as event
use Rattle.world_requests.specs.World.Parts.{request, Lower, idle, recovers, ended_below}
use Rattle.world_requests.specs.World.Worlds.{World}
use Rattle.world_requests.specs.World.Connections.{is_served}
use Rattle.world_requests.specs.World.Enabled.{can_down}
use Rattle.world_requests.specs.World.Events.{happens}
use Rattle.world_standings.specs.WorldNets.Nets.{IsEndOf}
use Rattle.recovery_events.specs.WorldOrders.Orders.{Ordered, purpose_of, recovering}
use Rattle.world_requests.specs.Requests.{IsAmong}
use Rattle.recovery_events.specs.MemberEvents.Showing.{ShowsWorld, OthersStay}
use Rattle.recovery_events.specs.declared.answering.Recovering.{Recovering}
use Rattle.recovery_events.specs.declared.faults.RecoveryFault.{RecoveryFault}
use Rattle.recovery_events.specs.Drawn.{asked_block}
use Rattle.recovery_events.specs.Faults.{IsCause}
use Rattle.recovery_events.specs.Orders.{TakeRecoveries, NameOneBlock}
use Rattle.play_servers.specs.declared.recoveries.AnswerEnd.{AnswerEnd}
use Rattle.play_servers.specs.declared.recoveries.AnswerEnd.TheVariants as answer_end
use Rattle.play_servers.specs.declared.recoveries.Answered.{Answered}
use Rattle.play_servers.specs.declared.recoveries.RecoveryServer.{RecoveryServer}
use Rattle.play_servers.specs.declared.servers.ServerEvent.{ServerEvent}
use Rattle.play_servers.specs.Showing.{BooksShow}
use Rattle.play_servers.specs.Events.{RestStays, event_of, RoseIf, DownIsLawful}

-- THE LOWER END

-- An end that answers a primary, with the book of the block that the first request there names.
pub record AnsweringShows {I O : Type 0} (i : link_in.Ghosts I) (o : link_out.Ghosts O) (w : World) (net : Net)
    (c : ℕ) (blocks : List BlockId) (old : Recovering I O) (place : ℕ) : Type 0 where
  pub end_is : IsEndOf i o w net c true old.end
  pub received : old.incoming ≡ nothing_received
  pub first : RecoveryOp
  pub first_is : slice_get (w.downs c) 0 ≡ Some (request (op.Recovery first))
  pub block : BlockId
  pub at_place : slice_get blocks place ≡ Some block
  pub of_block : block.0 ≡ asked_block first

-- A lower end whose node runs in that life, or one that has no further events: it has ended, or its node has stopped.
abbrev pub EndShows : {I O : Type 0} → link_in.Ghosts I → link_out.Ghosts O → World → Net → ℕ → List BlockId →
    Lower → AnswerEnd I O → Type 0
EndShows i o w net c blocks idle (answer_end.Idle e) = (is_served w c ≡ true) × IsEndOf i o w net c true e
EndShows i o w net c blocks recovers (answer_end.Answering old place) =
    (is_served w c ≡ true) × AnsweringShows i o w net c blocks old place
EndShows i o w net c blocks idle answer_end.Ended = is_served w c ≡ false
EndShows i o w net c blocks recovers answer_end.Ended = is_served w c ≡ false
EndShows i o w net c blocks ended_below answer_end.Ended = Unit {0}
EndShows i o w net c blocks l other = ⊥

-- A primary dialled the connection, and this is its lower end.
pub record ServerShows {I O : Type 0} (i : link_in.Ghosts I) (o : link_out.Ghosts O) (w : World) (net : Net) (c : ℕ)
    (blocks : List BlockId) (e : AnswerEnd I O) : Type 0 where
  pub dialled : purpose_of (w.dialled c).upper ≡ recovering
  pub end_is : EndShows i o w net c blocks (w.lowers c) e

-- The roads, the lower end and the books show the world.
pub record ServerStands {F R I O : Type 0} (r : roads.Ghosts R I O) (i : link_in.Ghosts I) (o : link_out.Ghosts O)
    (w : World) (net : Net) (c : ℕ) (blocks : List BlockId) (e : AnswerEnd I O) (books : List (BookState F)) (road : R)
    : Type 0 where
  pub roads_are : ShowsWorld r w net road
  pub server : ServerShows i o w net c blocks e
  pub books_are : BooksShow w c blocks books

-- Each request of a recovery that was sent on the connection is of one of these blocks.
abbrev pub AsksFor : List BlockId → World → ℕ → Type 0
AsksFor blocks w c = (k : ℕ) (asked : RecoveryOp) → slice_get (w.downs c) k ≡ Some (request (op.Recovery asked))
    → IsAmong blocks (asked_block asked)

-- AFTER AN EVENT

-- The roads, what is left of the lower end, and the books show the world after; all else that they show stays, and so do
-- all other ends.
pub record ServerLeft {F R I O : Type 0} (r : roads.Ghosts R I O) (i : link_in.Ghosts I) (o : link_out.Ghosts O)
    (w : World) (net : Net) (v : World) (c : ℕ) (blocks : List BlockId) (left : AnswerEnd I O)
    (books : List (BookState F)) (road : R) : Type 0 where
  pub made : Net
  pub roads_are : ShowsWorld r v made road
  pub server : ServerShows i o v made c blocks left
  pub books_are : BooksShow v c blocks books
  pub block : ℕ
  pub rest : RestStays w v c block
  pub others : OthersStay i o w net v made c None

-- What holds of each world before and after, whatever happened before: messages come in order (messages_come_in_order);
-- and what an end that answers a primary takes is a request of a recovery or the end, of the block of the first request
-- (recoveries_come_in_order, recoveries_name_one_block).
pub record RecoverIsLawful (w : World) (conn : ConnId) : Type 0 where
  pub lawful : DownIsLawful w conn
  pub ordered : Ordered w
  pub takes : TakeRecoveries w
  pub names : NameOneBlock w

abbrev pub DownEnds : {F R I O : Type 0} → files.Ghosts F → roads.Ghosts R I O → link_in.Ghosts I →
    link_out.Ghosts O → World → Net → ConnId → Bool → List BlockId → List (BookState F) → List (BookState F) → R → R →
    Result (Answered I O) RecoveryFault → Type 0
DownEnds f r i o w net conn answered blocks books books' road road' (Ok left) =
    RoseIf f left.event books books' ×
    ServerLeft r i o w net (happens w (event_of left.event (event.Down conn answered) (delivery.Down conn))) conn.0
    blocks left.end books' road'
DownEnds f r i o w net conn answered blocks books books' road road' (Err why) = IsCause r conn.0 road road' why

-- The same of any world that is shown.
abbrev pub EndShowsDown : {F R I O : Type 0} → files.Ghosts F → roads.Ghosts R I O → link_in.Ghosts I →
    link_out.Ghosts O → List BlockId → AnswerEnd I O → List (BookState F) → List (BookState F) → R → R →
    Result (Answered I O) RecoveryFault → Type 0
EndShowsDown f r i o blocks old books books' road road' result =
    (w : World) (net : Net) (conn : ConnId) (answered : Bool) →
    ServerStands r i o w net conn.0 blocks old books road → RecoverIsLawful w conn → AsksFor blocks w conn.0 →
    can_down w conn.0 ≡ true
    → DownEnds f r i o w net conn answered blocks books books' road road' result

-- The same of an end that has taken nothing yet.
abbrev pub IdleShows : {F R I O : Type 0} → files.Ghosts F → roads.Ghosts R I O → link_in.Ghosts I →
    link_out.Ghosts O → List BlockId → Conn I O → List (BookState F) → List (BookState F) → R → R →
    Result (Answered I O) RecoveryFault → Type 0
IdleShows f r i o blocks e books books' road road' result =
    EndShowsDown f r i o blocks (answer_end.Idle e) books books' road road' result

-- what is left: this end, and how the event ended
abbrev pub left_as : {I O : Type 0} → AnswerEnd I O → Result ServerEvent RecoveryFault →
    Result (Answered I O) RecoveryFault
left_as e (Ok ended) = Ok (record { end = e; event = ended })
left_as e (Err why) = Err why

-- The lower end takes what stands next, on the connection that it was made for.
pub record DownShows {F R I O : Type 0} (f : files.Ghosts F) (r : roads.Ghosts R I O) (i : link_in.Ghosts I)
    (o : link_out.Ghosts O) (blocks : List BlockId) (old new : RecoveryServer I O) (books books' : List (BookState F))
    (road road' : R) (result : Result ServerEvent RecoveryFault) : Type 0 where
  pub conn : new.conn ≡ old.conn
  pub shows : EndShowsDown f r i o blocks old.end books books' road road' (left_as new.end result)
