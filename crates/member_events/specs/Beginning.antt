-- An end that has taken nothing yet takes its first message: a request of any kind, or one to write.
use Rattle.std.specs.Prelude.{◌≡◌, ℕ, Bool, true, Option, Some, None, Result, Ok, Err}
use Rattle.hd_base.specs.Faults.{FaultsIncreased}
use Rattle.hd_base.specs.declared.ends.Conn.{Conn}
use Rattle.hd_base.specs.declared.links.LinkIn as link_in
use Rattle.hd_base.specs.declared.links.LinkOut as link_out
use Rattle.hd_base.specs.declared.numbers.ConnId.{ConnId}
use Rattle.hd_base.specs.declared.roads.Roads as roads
use Rattle.pipe_member.specs.FrameFeed.Kinds.{requests}
use Rattle.pipe_member.specs.LinkMessages.Next as came
use Rattle.pipe_member.specs.LinkMessages.Next.TheVariants as next
use Rattle.pipe_member.specs.LinkMessages.Incomings.{IncomingState, nothing_received, NextEnds}
use Rattle.link_pieces.specs.Roads.{names, ExchangesEnd, BringsEnd}
use Rattle.op_headers.specs.declared.ops.Op.{Op}
use Rattle.op_headers.specs.declared.ops.Op.TheVariants as op
use Rattle.pipe_member.specs.PipeTurns.Acting.{ShutsEnd}
use Rattle.road_traffic.specs.Showing.{Net}
use Rattle.world_texts.specs.World.Event.TheVariants as event
use Rattle.world_texts.specs.World.Parts.{request, idle, ended_below}
use Rattle.world_texts.specs.World.Worlds.{World}
use Rattle.world_texts.specs.World.Connections.{Next, message, the_end, down_taken}
use Rattle.world_texts.specs.World.Events.{happens}
use Rattle.world_texts.specs.WorldNets.Drawn.{ComesDown}
use Rattle.world_texts.specs.WorldNets.Nets.{IsEndOf}
use Rattle.world_texts.specs.Texts.{SpellsText}
use Rattle.member_events.specs.declared.beginning.FirstRequest.{FirstRequest}
use Rattle.member_events.specs.declared.beginning.Requested.{Requested}
use Rattle.member_events.specs.declared.faults.MemberFault.{MemberFault}
use Rattle.member_events.specs.declared.faults.MemberFault.TheVariants as fault
use Rattle.member_events.specs.Faults.{IsRoadFault}
use Rattle.member_events.specs.Steps.{FailsBy}
use Rattle.member_events.specs.Showing.{ShowsWorld, OthersStay}

-- ONE END

-- The end was exchanged and took what stood next, or the exchange failed.
abbrev pub IsDrawn : {R I O : Type 0} → roads.Ghosts R I O → link_in.Ghosts I → link_out.Ghosts O → Conn I O → R → R →
    Result (Conn I O) MemberFault → Type 0
IsDrawn r i o old road road' (Ok new) = ExchangesEnd r i o (names (Some old.id) old.id) old new road road' (Ok tt)
IsDrawn r i o old road road' (Err why) = IsRoadFault (r.faults road) (r.faults road') why

-- The end was brought back, or memory ran out.
abbrev pub IsBrought : {R I O : Type 0} → roads.Ghosts R I O → link_in.Ghosts I → link_out.Ghosts O → Conn I O → R → R →
    Result (Unit {0}) MemberFault → Type 0
IsBrought r i o at_end road road' (Ok u) = BringsEnd r i o at_end road road' (Ok u)
IsBrought r i o at_end road road' (Err why) = why ≡ fault.Memory

-- An end that has failed was brought back, or memory ran out.
abbrev pub IsBroken : {R I O : Type 0} → roads.Ghosts R I O → link_in.Ghosts I → link_out.Ghosts O → Conn I O → R → R →
    MemberFault → Type 0
IsBroken r i o at_end road road' fault.LinkFailed = BringsEnd r i o at_end road road' (Ok tt)
IsBroken r i o at_end road road' fault.Memory = Unit {0}
IsBroken r i o at_end road road' other = ⊥

-- The end was shut and brought back.
pub record Closes {R I O : Type 0} (r : roads.Ghosts R I O) (i : link_in.Ghosts I) (o : link_out.Ghosts O)
    (at_end : Conn I O) (road road' : R) : Type 0 where
  pub shut : Conn I O
  pub shuts : ShutsEnd o true at_end shut
  pub brings : BringsEnd r i o shut road road' (Ok tt)

-- The end was shut and brought back, or memory ran out.
abbrev pub IsClosed : {R I O : Type 0} → roads.Ghosts R I O → link_in.Ghosts I → link_out.Ghosts O → Conn I O → R → R →
    Result (Unit {0}) MemberFault → Type 0
IsClosed r i o at_end road road' (Ok u) = Closes r i o at_end road road'
IsClosed r i o at_end road road' (Err why) = why ≡ fault.Memory

-- No request is handed over, and the end was left so.
abbrev pub HandsNone : {M : Type 0} → (Result (Unit {0}) MemberFault → Type 0) → Result (Option M) MemberFault → Type 0
HandsNone P (Ok None) = P (Ok tt)
HandsNone P (Ok (Some new)) = ⊥
HandsNone P (Err why) = P (Err why)

-- What an end gave first, of which nothing was received before.
pub record GivesFirst {I : Type 0} (i : link_in.Ghosts I) (half half' : I) (r : came.Next Op) : Type 0 where
  pub left : IncomingState
  pub ends : NextEnds requests i nothing_received left half half' r

abbrev pub NextFirst : {I : Type 0} → link_in.Ghosts I → I → I → came.Next Op → Type 0
NextFirst i half half' next.Memory = Unit {0}
NextFirst i half half' other = GivesFirst i half half' other

-- Only the inward half of the end has changed, and this came.
pub record LooksFirst {I O : Type 0} (i : link_in.Ghosts I) (old new : Conn I O) (r : came.Next Op) : Type 0 where
  pub id : new.id ≡ old.id
  pub lower : new.lower ≡ old.lower
  pub outward : new.outward ≡ old.outward
  pub comes : NextFirst i old.inward new.inward r

-- A request is handed over with the end, an end that has failed is brought back, and another one is shut before.
abbrev pub FollowsFirst : {R I O : Type 0} → roads.Ghosts R I O → link_in.Ghosts I → link_out.Ghosts O → came.Next Op →
    Conn I O → R → R → Result (Option (FirstRequest I O)) MemberFault → Type 0
FollowsFirst r i o (next.Message asked) at_end road road' result =
    (road' ≡ road) × (result ≡ Ok (Some (record { end = at_end; op = asked })))
FollowsFirst r i o next.Failed at_end road road' result = FailsBy (IsBroken r i o at_end road road') result
FollowsFirst r i o next.Memory at_end road road' result = result ≡ Err fault.Memory
FollowsFirst r i o other at_end road road' result = HandsNone (IsClosed r i o at_end road road') result

-- A request to write is handed over with the end that has taken it, and at another request the end is shut.
abbrev pub FollowsRequest : {R I O : Type 0} → roads.Ghosts R I O → link_in.Ghosts I → link_out.Ghosts O → Op →
    Conn I O → R → R → Result (Option (Requested I O)) MemberFault → Type 0
FollowsRequest r i o (op.Write fields) at_end road road' result =
    (road' ≡ road) × (result ≡ Ok (Some (record { end = at_end; op = fields })))
FollowsRequest r i o other at_end road road' result = HandsNone (IsClosed r i o at_end road road') result

-- THE FIRST MESSAGE

-- An end of a connection that has taken nothing yet, and the roads show that world.
pub record IdleStands {R I O : Type 0} (r : roads.Ghosts R I O) (i : link_in.Ghosts I) (o : link_out.Ghosts O)
    (w : World) (net : Net) (c : ℕ) (at_end : Conn I O) (road : R) : Type 0 where
  pub roads_are : ShowsWorld r w net road
  pub lower : w.lowers c ≡ idle
  pub end_is : IsEndOf i o w net c true at_end

-- What comes first on a connection: a request, or the end.
abbrev pub IsFirstRequest : Next → Type 0
IsFirstRequest (message (request asked)) = SpellsText (request asked)
IsFirstRequest (message other) = ⊥
IsFirstRequest the_end = Unit {0}

-- This stands next for the end, and is spelled as it is written (messages_are_taken_in_order, messages_are_written).
pub record CanTakeFirst (w : World) (c : ℕ) (x : Next) : Type 0 where
  pub comes : ComesDown w c x
  pub first : IsFirstRequest x

-- The end has taken the request, and roads and end show the world in which it was taken.
pub record HasFirst {R I O : Type 0} (r : roads.Ghosts R I O) (i : link_in.Ghosts I) (o : link_out.Ghosts O)
    (w : World) (net : Net) (c : ℕ) (x : Next) (road : R) (new : FirstRequest I O) : Type 0 where
  pub is_request : x ≡ message (request new.op)
  pub made : Net
  pub roads_are : ShowsWorld r (down_taken w c x) made road
  pub end_is : IsEndOf i o (down_taken w c x) made c true new.end
  pub others : OthersStay i o w net (down_taken w c x) made c None

-- The end has taken the end, and the connection has ended.
pub record HasEnded {R I O : Type 0} (r : roads.Ghosts R I O) (i : link_in.Ghosts I) (o : link_out.Ghosts O)
    (w : World) (net : Net) (v : World) (c : ℕ) (x : Next) (road : R) : Type 0 where
  pub is_end : x ≡ the_end
  pub made : Net
  pub roads_are : ShowsWorld r v made road
  pub lower : v.lowers c ≡ ended_below
  pub others : OthersStay i o w net v made c None

-- Each fault has its cause.
abbrev pub IsEndFault : {R I O : Type 0} → roads.Ghosts R I O → ℕ → R → R → MemberFault → Type 0
IsEndFault r c road road' fault.LinkFailed = r.risen road' c ≡ true
IsEndFault r c road road' fault.RoadsFailed = FaultsIncreased (r.faults road) (r.faults road')
IsEndFault r c road road' fault.Memory = Unit {0}
IsEndFault r c road road' fault.FilesFailed = ⊥

abbrev pub FirstEnds : {R I O : Type 0} → roads.Ghosts R I O → link_in.Ghosts I → link_out.Ghosts O → World → Net →
    ConnId → Bool → Next → R → R → Result (Option (FirstRequest I O)) MemberFault → Type 0
FirstEnds r i o w net conn answered x road road' (Ok (Some new)) = HasFirst r i o w net conn.0 x road' new
FirstEnds r i o w net conn answered x road road' (Ok None) =
    HasEnded r i o w net (happens w (event.Down conn answered)) conn.0 x road'
FirstEnds r i o w net conn answered x road road' (Err why) = IsEndFault r conn.0 road road' why

abbrev pub FirstShows : {R I O : Type 0} → roads.Ghosts R I O → link_in.Ghosts I → link_out.Ghosts O → Conn I O → R → R →
    Result (Option (FirstRequest I O)) MemberFault → Type 0
FirstShows r i o at_end road road' result =
    (w : World) (net : Net) (conn : ConnId) (answered : Bool) (x : Next) →
    IdleStands r i o w net conn.0 at_end road → CanTakeFirst w conn.0 x
    → FirstEnds r i o w net conn answered x road road' result

-- THE FIRST REQUEST TO WRITE

-- What comes first on a connection of a pipeline: a request to write, or the end.
abbrev pub IsFirst : Next → Type 0
IsFirst (message (request (op.Write fields))) = SpellsText (request (op.Write fields))
IsFirst (message other) = ⊥
IsFirst the_end = Unit {0}

-- This stands next for the end, and is spelled as it is written (messages_are_taken_in_order, messages_are_written).
pub record CanBegin (w : World) (c : ℕ) (x : Next) : Type 0 where
  pub comes : ComesDown w c x
  pub first : IsFirst x

-- The end has taken the request to write, and roads and end show the world in which it was taken.
pub record HasRequest {R I O : Type 0} (r : roads.Ghosts R I O) (i : link_in.Ghosts I) (o : link_out.Ghosts O)
    (w : World) (net : Net) (c : ℕ) (x : Next) (road : R) (new : Requested I O) : Type 0 where
  pub is_request : x ≡ message (request (op.Write new.op))
  pub made : Net
  pub roads_are : ShowsWorld r (down_taken w c x) made road
  pub end_is : IsEndOf i o (down_taken w c x) made c true new.end
  pub others : OthersStay i o w net (down_taken w c x) made c None

abbrev pub BeginEnds : {R I O : Type 0} → roads.Ghosts R I O → link_in.Ghosts I → link_out.Ghosts O → World → Net →
    ConnId → Bool → Next → R → R → Result (Option (Requested I O)) MemberFault → Type 0
BeginEnds r i o w net conn answered x road road' (Ok (Some new)) = HasRequest r i o w net conn.0 x road' new
BeginEnds r i o w net conn answered x road road' (Ok None) =
    HasEnded r i o w net (happens w (event.Down conn answered)) conn.0 x road'
BeginEnds r i o w net conn answered x road road' (Err why) = IsEndFault r conn.0 road road' why

abbrev pub BeginShows : {R I O : Type 0} → roads.Ghosts R I O → link_in.Ghosts I → link_out.Ghosts O → Conn I O → R → R →
    Result (Option (Requested I O)) MemberFault → Type 0
BeginShows r i o at_end road road' result =
    (w : World) (net : Net) (conn : ConnId) (answered : Bool) (x : Next) →
    IdleStands r i o w net conn.0 at_end road → CanBegin w conn.0 x
    → BeginEnds r i o w net conn answered x road road' result
