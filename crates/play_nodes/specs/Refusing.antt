-- What the events of the nodes make of roads and nodes that show a world, while the writes on a data file are refused.
use Rattle.std.specs.Prelude.{◌≡◌, ℕ, Bool, true, false, Option, Some, None, IsSome, Result, Ok, Err}
use Rattle.hd_base.specs.Faults.{FaultsIncreased}
use Rattle.hd_base.specs.declared.numbers.ConnId.{ConnId}
use Rattle.hd_base.specs.declared.files.Files as files
use Rattle.hd_base.specs.declared.links.LinkIn as link_in
use Rattle.hd_base.specs.declared.links.LinkOut as link_out
use Rattle.hd_base.specs.declared.roads.Roads as roads
use Rattle.road_traffic.specs.Showing.{Net}
use Rattle.play_model.specs.World.Delivery.TheVariants as delivery
use Rattle.play_model.specs.World.Event.TheVariants as event
use Rattle.play_model.specs.World.Parts.{FullMember}
use Rattle.play_model.specs.World.Worlds.{World}
use Rattle.play_model.specs.World.Connections.{Next}
use Rattle.play_model.specs.World.Nodes.{node_of}
use Rattle.play_model.specs.World.Events.{happens}
use Rattle.play_model.specs.declared.dues.Due.TheVariants as due
use Rattle.play_model.specs.Dues.{Queues, is_due}
use Rattle.world_writes.specs.Writes.{grows}
use Rattle.member_events.specs.ReplicaFiles.BookState.{BookState}
use Rattle.member_events.specs.PipeMember.Member.{Member}
use Rattle.member_events.specs.declared.faults.MemberFault.{MemberFault}
use Rattle.member_events.specs.declared.steps.Downed.{Downed}
use Rattle.member_events.specs.declared.steps.Downed.TheVariants as downed
use Rattle.member_events.specs.Events.{CanDown}
use Rattle.member_events.specs.Faults.{IsLinkCaused}
use Rattle.member_events.specs.Showing.{MemberStands, MemberLeft}
use Rattle.play_nodes.specs.declared.faults.NodesFault.{NodesFault}
use Rattle.play_nodes.specs.declared.nodes.Nodes.{Nodes}
use Rattle.play_nodes.specs.declared.nodes.Refused.{Refused}
use Rattle.play_nodes.specs.declared.nodes.Refused.TheVariants as refused
use Rattle.play_nodes.specs.Places.{book_at}
use Rattle.play_nodes.specs.Showing.{IsOfPipeline, NodesStand, NodesLeft}
use Rattle.play_nodes.specs.Events.{IsCaused, IsLawful, IsBusy}

-- how an event has ended in which a write was refused, or none was
abbrev pub refused_in : {I O : Type 0} → Result (Downed I O) MemberFault → Bool → Result (Refused I O) MemberFault
refused_in (Ok (downed.Done left)) was_refused = Ok (refused.Done left)
refused_in (Ok downed.Broke) true = Ok refused.Broke
refused_in (Ok downed.Broke) false = Ok refused.Failed
refused_in (Err why) was_refused = Err why

-- A MEMBER

-- The event was done; where the files are told, the replica hasn't grown.
pub record RefusesNone {F R I O : Type 0} (f : files.Ghosts F) (r : roads.Ghosts R I O) (i : link_in.Ghosts I)
    (o : link_out.Ghosts O) (w : World) (net : Net) (v : World) (c : ℕ) (full : FullMember) (book book' : BookState F)
    (road : R) (left : Option (Member I O)) : Type 0 where
  pub is_left : MemberLeft r i o w net v c full book' road left
  pub still : IsSome (f.files book.drawer) → grows w c ≡ false

-- A write was refused, and the replica broke; where the files are told, it would have grown.
pub record RefusesWrite {F R I O : Type 0} (f : files.Ghosts F) (r : roads.Ghosts R I O) (i : link_in.Ghosts I)
    (o : link_out.Ghosts O) (w : World) (net : Net) (v : World) (c : ℕ) (full : FullMember) (book book' : BookState F)
    (road : R) : Type 0 where
  pub is_left : MemberLeft r i o w net v c full book' road None
  pub grown : IsSome (f.files book.drawer) → grows w c ≡ true

-- How the event ends.
abbrev pub MemberEnds : {F R I O : Type 0} → files.Ghosts F → roads.Ghosts R I O → link_in.Ghosts I →
    link_out.Ghosts O → World → Net → ConnId → Bool → FullMember → BookState F → BookState F → R → R →
    Result (Refused I O) MemberFault → Type 0
MemberEnds f r i o w net conn answered full book book' road road' (Ok (refused.Done left)) =
    RefusesNone f r i o w net (happens w (event.Down conn answered)) conn.0 full book book' road' left
MemberEnds f r i o w net conn answered full book book' road road' (Ok refused.Broke) =
    RefusesWrite f r i o w net (happens w (event.Fault (delivery.Down conn))) conn.0 full book book' road'
MemberEnds f r i o w net conn answered full book book' road road' (Ok refused.Failed) =
    FaultsIncreased (f.faults book.drawer) (f.faults book'.drawer)
MemberEnds f r i o w net conn answered full book book' road road' (Err why) =
    IsLinkCaused r conn.0 full.mirror road road' why

abbrev pub MemberRefuses : {F R I O : Type 0} → files.Ghosts F → roads.Ghosts R I O → link_in.Ghosts I →
    link_out.Ghosts O → Member I O → BookState F → BookState F → R → R → Result (Refused I O) MemberFault → Type 0
MemberRefuses f r i o m book book' road road' result =
    (w : World) (net : Net) (conn : ConnId) (answered : Bool) (full : FullMember) (x : Next) →
    MemberStands r i o w net conn.0 full book m road → CanDown w conn answered full x
    → MemberEnds f r i o w net conn answered full book book' road road' result

-- THE NODES

-- The files of a node's books are told.
abbrev pub AreTold : {F I O : Type 0} → files.Ghosts F → Nodes F I O → ℕ → Type 0
AreTold {F} f n node = (place : ℕ) (book : BookState F) → book_at n.nodes.items node place ≡ Some book
    → IsSome (f.files book.drawer)

-- What stood next was taken from above, and the nodes show the world after.
pub record NoneRefused {F R I O : Type 0} (f : files.Ghosts F) (r : roads.Ghosts R I O) (i : link_in.Ghosts I)
    (o : link_out.Ghosts O) (w : World) (net : Net) (conn : ConnId) (answered : Bool) (old new : Nodes F I O) (road : R)
    : Type 0 where
  pub is_left : NodesLeft r i o w net (happens w (event.Down conn answered)) road new
  pub still : AreTold f old (node_of w conn.0) → grows w conn.0 ≡ false

-- A write was refused, and the nodes show the world after the event in which that call failed.
pub record WriteRefused {F R I O : Type 0} (f : files.Ghosts F) (r : roads.Ghosts R I O) (i : link_in.Ghosts I)
    (o : link_out.Ghosts O) (w : World) (net : Net) (conn : ConnId) (old new : Nodes F I O) (road : R) : Type 0 where
  pub is_left : NodesLeft r i o w net (happens w (event.Fault (delivery.Down conn))) road new
  pub grown : AreTold f old (node_of w conn.0) → grows w conn.0 ≡ true

abbrev pub RefusingEnds : {F R I O : Type 0} → files.Ghosts F → roads.Ghosts R I O → link_in.Ghosts I →
    link_out.Ghosts O → World → Net → ConnId → Bool → Nodes F I O → Nodes F I O → R → R → Result Bool NodesFault →
    Type 0
RefusingEnds f r i o w net conn answered old new road road' (Ok true) = WriteRefused f r i o w net conn old new road'
RefusingEnds f r i o w net conn answered old new road road' (Ok false) =
    NoneRefused f r i o w net conn answered old new road'
RefusingEnds f r i o w net conn answered old new road road' (Err why) = IsCaused f r old new road road' why

abbrev pub RefusingShows : {F R I O : Type 0} → files.Ghosts F → roads.Ghosts R I O → link_in.Ghosts I →
    link_out.Ghosts O → ConnId → Nodes F I O → Nodes F I O → R → R → Result Bool NodesFault → Type 0
RefusingShows f r i o conn old new road road' result =
    (w : World) (net : Net) (queues : Queues) (answered : Bool) → NodesStand r i o w net road old →
    IsOfPipeline w conn.0 → IsLawful w (event.Down conn answered) → is_due w queues (due.Down conn) ≡ true →
    IsBusy w conn.0
    → RefusingEnds f r i o w net conn answered old new road road' result
