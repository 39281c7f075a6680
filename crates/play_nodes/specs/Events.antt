-- What the events of the nodes make of roads and nodes that show a world.
use Rattle.std.specs.Prelude.{◌≡◌, ℕ, Bool, true, Some, Result, Ok, Err}
use Rattle.hd_base.specs.Faults.{FaultsIncreased}
use Rattle.hd_base.specs.declared.numbers.ConnId.{ConnId}
use Rattle.hd_base.specs.declared.numbers.NodeId.{NodeId}
use Rattle.hd_base.specs.declared.files.Files as files
use Rattle.hd_base.specs.declared.links.LinkIn as link_in
use Rattle.hd_base.specs.declared.links.LinkOut as link_out
use Rattle.hd_base.specs.declared.roads.Roads as roads
use Rattle.member_events.specs.ReplicaFiles.BookState.{BookState}
use Rattle.road_traffic.specs.Showing.{Net}
use Rattle.play_model.specs.World.Event.{Event}
use Rattle.play_model.specs.World.Event.TheVariants as event
use Rattle.play_model.specs.World.Parts.{by_member, idle}
use Rattle.play_model.specs.World.Worlds.{World}
use Rattle.play_model.specs.World.Events.{happens}
use Rattle.play_model.specs.WorldLaws.Placing.{Placed}
use Rattle.world_orders.specs.Orders.{Ordered}
use Rattle.world_orders.specs.Takes.{TakesInOrder}
use Rattle.world_writes.specs.Writes.{grows}
use Rattle.member_events.specs.WorldTexts.Texts.{Written}
use Rattle.play_model.specs.declared.dues.Due.TheVariants as due
use Rattle.play_model.specs.Dues.{Queues, is_due}
use Rattle.play_nodes.specs.declared.faults.NodesFault.{NodesFault}
use Rattle.play_nodes.specs.declared.faults.NodesFault.TheVariants as fault
use Rattle.play_nodes.specs.declared.nodes.Nodes.{Nodes}
use Rattle.play_nodes.specs.Places.{book_at}
use Rattle.play_nodes.specs.Showing.{IsOfPipeline, NodesStand, NodesLeft}

-- FAULTS

-- A call on the files of a book of the node failed.
pub record DrawerFailed {F I O : Type 0} (f : files.Ghosts F) (old new : Nodes F I O) (node : NodeId) : Type 0 where
  pub place : ℕ
  pub book : BookState F
  pub book' : BookState F
  pub before : book_at old.nodes.items node.0 place ≡ Some book
  pub now : book_at new.nodes.items node.0 place ≡ Some book'
  pub rose : FaultsIncreased (f.faults book.drawer) (f.faults book'.drawer)

-- Each fault has its cause.
abbrev pub IsCaused : {F R I O : Type 0} → files.Ghosts F → roads.Ghosts R I O → Nodes F I O → Nodes F I O → R → R →
    NodesFault → Type 0
IsCaused f r old new road road' fault.LinkFailed = (c : ℕ) × (r.risen road' c ≡ true)
IsCaused f r old new road road' fault.RoadsFailed = FaultsIncreased (r.faults road) (r.faults road')
IsCaused f r old new road road' (fault.FilesFailed node) = DrawerFailed f old new node
IsCaused f r old new road road' fault.Memory = Unit {0}

-- EVENTS

-- What holds of each world before and after an event, whatever happened before: messages come in order
-- (messages_come_in_order), whoever takes one knows its kind (messages_are_taken_in_order), each is spelled as it is
-- written (messages_are_written), and every index is in range (indices_are_in_range).
pub record IsLawful (w : World) (e : Event) : Type 0 where
  pub ordered : Ordered w
  pub taken : TakesInOrder w
  pub placed : Placed w
  pub before : Written w
  pub after : Written (happens w e)

-- How an event of the nodes ends: what is left shows the world after it, or a fault has its cause.
abbrev pub EventEnds : {F R I O : Type 0} → files.Ghosts F → roads.Ghosts R I O → link_in.Ghosts I →
    link_out.Ghosts O → World → Net → Event → Nodes F I O → Nodes F I O → R → R → Result (Unit {0}) NodesFault → Type 0
EventEnds f r i o w net e old new road road' (Ok u) = NodesLeft r i o w net (happens w e) road' new
EventEnds f r i o w net e old new road road' (Err why) = IsCaused f r old new road road' why

abbrev pub ReadyShows : {F R I O : Type 0} → files.Ghosts F → roads.Ghosts R I O → link_in.Ghosts I →
    link_out.Ghosts O → ConnId → Nodes F I O → Nodes F I O → R → R → Result (Unit {0}) NodesFault → Type 0
ReadyShows f r i o conn old new road road' result =
    (w : World) (net : Net) (queues : Queues) → NodesStand r i o w net road old → IsOfPipeline w conn.0 →
    IsLawful w (event.Ready conn) → is_due w queues (due.Ready conn) ≡ true
    → EventEnds f r i o w net (event.Ready conn) old new road road' result

-- An end that isn't idle.
abbrev pub IsBusy : World → ℕ → Type 0
IsBusy w c = w.lowers c ≡ idle → ⊥

-- What stood next was taken from above, and the nodes show the world after; it is told whether the replica grew.
pub record DownLeft {F R I O : Type 0} (r : roads.Ghosts R I O) (i : link_in.Ghosts I) (o : link_out.Ghosts O)
    (w : World) (net : Net) (conn : ConnId) (answered : Bool) (road : R) (n : Nodes F I O) (grew : Bool) : Type 0 where
  pub grown : grew ≡ grows w conn.0
  pub is_left : NodesLeft r i o w net (happens w (event.Down conn answered)) road n

abbrev pub DownEnds : {F R I O : Type 0} → files.Ghosts F → roads.Ghosts R I O → link_in.Ghosts I →
    link_out.Ghosts O → World → Net → ConnId → Bool → Nodes F I O → Nodes F I O → R → R → Result Bool NodesFault →
    Type 0
DownEnds f r i o w net conn answered old new road road' (Ok grew) = DownLeft r i o w net conn answered road' new grew
DownEnds f r i o w net conn answered old new road road' (Err why) = IsCaused f r old new road road' why

abbrev pub DownShows : {F R I O : Type 0} → files.Ghosts F → roads.Ghosts R I O → link_in.Ghosts I →
    link_out.Ghosts O → ConnId → Nodes F I O → Nodes F I O → R → R → Result Bool NodesFault → Type 0
DownShows f r i o conn old new road road' result =
    (w : World) (net : Net) (queues : Queues) (answered : Bool) → NodesStand r i o w net road old →
    IsOfPipeline w conn.0 → IsLawful w (event.Down conn answered) → is_due w queues (due.Down conn) ≡ true →
    IsBusy w conn.0
    → DownEnds f r i o w net conn answered old new road road' result

abbrev pub UpShows : {F R I O : Type 0} → files.Ghosts F → roads.Ghosts R I O → link_in.Ghosts I → link_out.Ghosts O →
    ConnId → Nodes F I O → Nodes F I O → R → R → Result (Unit {0}) NodesFault → Type 0
UpShows f r i o conn old new road road' result =
    (w : World) (net : Net) (queues : Queues) (d : ℕ) → NodesStand r i o w net road old →
    IsLawful w (event.Up conn) → is_due w queues (due.Up conn) ≡ true → (w.dialled conn.0).upper ≡ by_member d
    → EventEnds f r i o w net (event.Up conn) old new road road' result
