-- What the events of a member make of roads, book and member that show a world: what shows the world after the event.
use Rattle.std.specs.Prelude.{◌≡◌, ℕ, Bool, true, false, Option, Some, None, Result, Ok, Err}
use Rattle.hd_base.specs.declared.numbers.ConnId.{ConnId}
use Rattle.hd_base.specs.declared.files.Files as files
use Rattle.hd_base.specs.declared.links.LinkIn as link_in
use Rattle.hd_base.specs.declared.links.LinkOut as link_out
use Rattle.hd_base.specs.declared.roads.Roads as roads
use Rattle.hd_base.specs.Faults.{FaultsIncreased}
use Rattle.pipe_member.specs.ReplicaFiles.BookState.{BookState}
use Rattle.pipe_member.specs.MemberCore.Turn.{Turn}
use Rattle.pipe_member.specs.MemberCore.Steps.{ready_turn_at}
use Rattle.pipe_member.specs.declared.member.Member.{Member}
use Rattle.pipe_member.specs.Steps.{is_asked}
use Rattle.road_traffic.specs.Showing.{Net}
use Rattle.world_texts.specs.World.Delivery.TheVariants as delivery
use Rattle.world_texts.specs.World.Event.{Event}
use Rattle.world_texts.specs.World.Event.TheVariants as event
use Rattle.world_texts.specs.World.Parts.{ack, response, FullMember}
use Rattle.world_texts.specs.World.Worlds.{World}
use Rattle.world_texts.specs.World.Connections.{Next, message, the_end, is_served}
use Rattle.world_texts.specs.World.Nodes.{block_of, replica_at, pending_at, takes_next}
use Rattle.world_texts.specs.World.Events.{happens}
use Rattle.world_texts.specs.WorldNets.Drawn.{ComesDown, ComesUp, HearsMirror}
use Rattle.member_events.specs.declared.faults.MemberFault.{MemberFault}
use Rattle.member_events.specs.declared.steps.Downed.{Downed}
use Rattle.member_events.specs.declared.steps.Downed.TheVariants as downed
use Rattle.member_events.specs.Faults.{IsCaused, IsLinkCaused}
use Rattle.world_texts.specs.Texts.{SpellsText}
use Rattle.member_events.specs.Texts.{SpellUp, IsPacketNext}
use Rattle.member_events.specs.Showing.{MemberStands, MemberLeft}
use Rattle.member_events.specs.Writes.{TellsGrowth, TellsBreak}

-- How an event of a member at a connection ends: what is left shows the world after it, or a fault has its cause.
abbrev pub EventEnds : {F R I O : Type 0} → files.Ghosts F → roads.Ghosts R I O → link_in.Ghosts I →
    link_out.Ghosts O → World → Net → Event → ℕ → FullMember → BookState F → BookState F → R → R →
    Result (Option (Member I O)) MemberFault → Type 0
EventEnds f r i o w net e c full book book' road road' (Ok left) =
    MemberLeft r i o w net (happens w e) c full book' road' left
EventEnds f r i o w net e c full book book' road road' (Err why) =
    IsCaused f r c full.mirror book book' road road' why

-- READY

-- A member has this turn without a message, and what it sends is spelled as it is written.
pub record CanReady (w : World) (conn : ConnId) (full : FullMember) (t : Turn) : Type 0 where
  pub served : is_served w conn.0 ≡ true
  pub acts : ready_turn_at full.state (replica_at w conn.0 (block_of full.fields)) ≡ Some t
  pub spelled : SpellUp (happens w (event.Ready conn)) conn.0

abbrev pub ReadyShows : {F R I O : Type 0} → files.Ghosts F → roads.Ghosts R I O → link_in.Ghosts I →
    link_out.Ghosts O → Member I O → BookState F → BookState F → R → R → Result (Option (Member I O)) MemberFault →
    Type 0
ReadyShows f r i o m book book' road road' result =
    (w : World) (net : Net) (conn : ConnId) (full : FullMember) (t : Turn) →
    MemberStands r i o w net conn.0 full book m road → CanReady w conn full t
    → EventEnds f r i o w net (event.Ready conn) conn.0 full book book' road road' result

-- DOWN

-- A member takes what stands next from above. That it is a packet, and is spelled as it is written, holds after all events
-- (messages_are_taken_in_order, messages_are_written); so does what is sent then.
pub record CanDown (w : World) (conn : ConnId) (answered : Bool) (full : FullMember) (x : Next) : Type 0 where
  pub comes : ComesDown w conn.0 x
  pub takes : takes_next full.state (pending_at w conn.0 full) x ≡ true
  pub packets : IsPacketNext x
  pub spelled : SpellUp (happens w (event.Down conn answered)) conn.0

-- The event was done.
pub record DownDone {F R I O : Type 0} (f : files.Ghosts F) (r : roads.Ghosts R I O) (i : link_in.Ghosts I)
    (o : link_out.Ghosts O) (w : World) (net : Net) (v : World) (c : ℕ) (full : FullMember) (book book' : BookState F)
    (road' : R) (left : Option (Member I O)) : Type 0 where
  pub is_left : MemberLeft r i o w net v c full book' road' left
  pub told : TellsGrowth f w c book book'

-- A call on the replica's files failed: it is another event, and the member has shut.
pub record DownBroke {F R I O : Type 0} (f : files.Ghosts F) (r : roads.Ghosts R I O) (i : link_in.Ghosts I)
    (o : link_out.Ghosts O) (w : World) (net : Net) (v : World) (c : ℕ) (full : FullMember) (book book' : BookState F)
    (road' : R) : Type 0 where
  pub is_left : MemberLeft r i o w net v c full book' road' None
  pub rose : FaultsIncreased (f.faults book.drawer) (f.faults book'.drawer)
  pub told : TellsBreak f w c book book'

abbrev pub DownEnds : {F R I O : Type 0} → files.Ghosts F → roads.Ghosts R I O → link_in.Ghosts I →
    link_out.Ghosts O → World → Net → ConnId → Bool → FullMember → BookState F → BookState F → R → R →
    Result (Downed I O) MemberFault → Type 0
DownEnds f r i o w net conn answered full book book' road road' (Ok (downed.Done left)) =
    DownDone f r i o w net (happens w (event.Down conn answered)) conn.0 full book book' road' left
DownEnds f r i o w net conn answered full book book' road road' (Ok downed.Broke) =
    DownBroke f r i o w net (happens w (event.Fault (delivery.Down conn))) conn.0 full book book' road'
DownEnds f r i o w net conn answered full book book' road road' (Err why) =
    IsLinkCaused r conn.0 full.mirror road road' why

abbrev pub DownShows : {F R I O : Type 0} → files.Ghosts F → roads.Ghosts R I O → link_in.Ghosts I →
    link_out.Ghosts O → Member I O → BookState F → BookState F → R → R → Result (Downed I O) MemberFault → Type 0
DownShows f r i o m book book' road road' result =
    (w : World) (net : Net) (conn : ConnId) (answered : Bool) (full : FullMember) (x : Next) →
    MemberStands r i o w net conn.0 full book m road → CanDown w conn answered full x
    → DownEnds f r i o w net conn answered full book book' road road' result

-- UP

-- What comes from the mirror where its answer to the request is awaited, or isn't: the answer, an ack, or the end.
abbrev pub IsMirrorNext : Bool → Next → Type 0
IsMirrorNext true (message (response r)) = SpellsText (response r)
IsMirrorNext false (message (ack a)) = SpellsText (ack a)
IsMirrorNext awaits (message other) = ⊥
IsMirrorNext awaits the_end = Unit {0}

-- The member at this connection takes what stands next on the one to its mirror. Which message it is, and that it is spelled
-- as it is written, holds after all events (messages_are_taken_in_order, messages_are_written).
pub record CanUp (w : World) (c : ℕ) (mirror : ConnId) (full : FullMember) (x : Next) : Type 0 where
  pub comes : ComesUp w mirror.0 x
  pub heard : HearsMirror w mirror.0 c full
  pub of_mirror : full.mirror ≡ Some mirror.0
  pub answers : IsMirrorNext (is_asked full.state.mirror) x
  pub spelled : SpellUp (happens w (event.Up mirror)) c

abbrev pub UpShows : {F R I O : Type 0} → files.Ghosts F → roads.Ghosts R I O → link_in.Ghosts I → link_out.Ghosts O →
    ConnId → Member I O → BookState F → BookState F → R → R → Result (Option (Member I O)) MemberFault → Type 0
UpShows f r i o mirror m book book' road road' result =
    (w : World) (net : Net) (c : ℕ) (full : FullMember) (x : Next) →
    MemberStands r i o w net c full book m road → CanUp w c mirror full x
    → EventEnds f r i o w net (event.Up mirror) c full book book' road road' result
