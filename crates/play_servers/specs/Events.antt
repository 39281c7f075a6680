-- What the events of a node that serves a read make of the lower end, the books and roads that show a world.
use Rattle.std.specs.Prelude.{◌≡◌, ℕ, Bool, true, List, slice_get, None, Some, IsSome, Result, Ok, Err}
use Rattle.hd_base.specs.Faults.{FaultsIncreased}
use Rattle.hd_base.specs.declared.ends.Conn.{Conn}
use Rattle.hd_base.specs.declared.files.Files as files
use Rattle.hd_base.specs.declared.links.LinkIn as link_in
use Rattle.hd_base.specs.declared.links.LinkOut as link_out
use Rattle.hd_base.specs.declared.numbers.BlockId.{BlockId}
use Rattle.hd_base.specs.declared.numbers.ConnId.{ConnId}
use Rattle.hd_base.specs.declared.roads.Roads as roads
use Rattle.recovery_events.specs.ReplicaFiles.BookState.{BookState}
use Rattle.road_traffic.specs.Showing.{Net}
use Rattle.world_requests.specs.World.Delivery.{Delivery}
use Rattle.world_requests.specs.World.Delivery.TheVariants as delivery
use Rattle.world_requests.specs.World.Event.{Event}
use Rattle.world_requests.specs.World.Event.TheVariants as event
use Rattle.world_requests.specs.World.Worlds.{World}
use Rattle.world_requests.specs.World.Nodes.{node_of}
use Rattle.world_requests.specs.World.Enabled.{can_down, can_ready}
use Rattle.world_requests.specs.World.Events.{happens}
use Rattle.recovery_events.specs.WorldOrders.Takes.{TakesInOrder}
use Rattle.recovery_events.specs.WorldTexts.Texts.{Written}
use Rattle.recovery_events.specs.MemberEvents.Showing.{ShowsWorld, OthersStay}
use Rattle.serving_events.specs.declared.faults.ServeFault.{ServeFault}
use Rattle.serving_events.specs.declared.faults.ServeFault.TheVariants as fault
use Rattle.play_servers.specs.declared.servers.Left.{Left}
use Rattle.play_servers.specs.declared.servers.ReadEnd.{ReadEnd}
use Rattle.play_servers.specs.declared.servers.ReadEnd.TheVariants as read_end
use Rattle.play_servers.specs.declared.servers.ReadServer.{ReadServer}
use Rattle.play_servers.specs.declared.servers.ServerEvent.{ServerEvent}
use Rattle.play_servers.specs.declared.servers.ServerEvent.TheVariants as server_event
use Rattle.play_servers.specs.Showing.{ServerShows, BooksShow, ServerStands, AsksFor}

-- FAULTS

-- A call on the files of a book failed.
pub record BookRose {F : Type 0} (f : files.Ghosts F) (books books' : List (BookState F)) : Type 0 where
  pub place : ℕ
  pub book : BookState F
  pub book' : BookState F
  pub before : slice_get books place ≡ Some book
  pub now : slice_get books' place ≡ Some book'
  pub rose : FaultsIncreased (f.faults book.drawer) (f.faults book'.drawer)

-- The files of a book aren't told.
pub record BookUntold {F : Type 0} (f : files.Ghosts F) (books : List (BookState F)) : Type 0 where
  pub place : ℕ
  pub book : BookState F
  pub at : slice_get books place ≡ Some book
  pub untold : f.files book.drawer ≡ None

-- Those of all are.
abbrev pub AreTold : {F : Type 0} → files.Ghosts F → List (BookState F) → Type 0
AreTold {F} f books = (place : ℕ) (book : BookState F) → slice_get books place ≡ Some book
    → IsSome (f.files book.drawer)

-- Each fault has its cause: the end was brought back with a count that had risen, the roads' count rose, or the files of
-- a book, which aren't told, gave too few bytes.
abbrev pub IsCaused : {F R I O : Type 0} → files.Ghosts F → roads.Ghosts R I O → ℕ → List (BookState F) → R → R →
    ServeFault → Type 0
IsCaused f r c books road road' fault.LinkFailed = r.risen road' c ≡ true
IsCaused f r c books road road' fault.RoadsFailed = FaultsIncreased (r.faults road) (r.faults road')
IsCaused f r c books road road' fault.BytesMissing = BookUntold f books
IsCaused f r c books road road' fault.Memory = Unit {0}

-- The same where no bytes are read.
abbrev pub IsCausedByRoads : {R I O : Type 0} → roads.Ghosts R I O → ℕ → R → R → ServeFault → Type 0
IsCausedByRoads r c road road' fault.LinkFailed = r.risen road' c ≡ true
IsCausedByRoads r c road road' fault.RoadsFailed = FaultsIncreased (r.faults road) (r.faults road')
IsCausedByRoads r c road road' fault.BytesMissing = ⊥
IsCausedByRoads r c road road' fault.Memory = Unit {0}

-- AFTER AN EVENT

-- All but one lower end, and one replica at its node, stay as they are, and nothing is dialled or sent down.
pub record RestStays (w v : World) (c b : ℕ) : Type 0 where
  pub nodes : v.nodes ≡ w.nodes
  pub conns : v.next_conn ≡ w.next_conn
  pub dialled : (d : ℕ) → v.dialled d ≡ w.dialled d
  pub downs : (d : ℕ) → v.downs d ≡ w.downs d
  pub running : (n : ℕ) → v.running n ≡ w.running n
  pub lives : (n : ℕ) → v.lives n ≡ w.lives n
  pub lowers : (d : ℕ) → (d ≡ c → ⊥) → v.lowers d ≡ w.lowers d
  pub replicas : (n k : ℕ) → (n ≡ node_of w c → k ≡ b → ⊥) → v.replicas n k ≡ w.replicas n k

-- The roads, what is left of the lower end, and the books show the world after; all else that they show stays, and so do
-- all other ends.
pub record ServerLeft {F R I O : Type 0} (r : roads.Ghosts R I O) (i : link_in.Ghosts I) (o : link_out.Ghosts O)
    (w : World) (net : Net) (v : World) (c : ℕ) (blocks : List BlockId) (left : ReadEnd I O)
    (books : List (BookState F)) (road : R) : Type 0 where
  pub made : Net
  pub roads_are : ShowsWorld r v made road
  pub server : ServerShows i o v made c blocks left
  pub books_are : BooksShow v c blocks books
  pub block : ℕ
  pub rest : RestStays w v c block
  pub others : OthersStay i o w net v made c None

-- the world's event: this one, or that in which the call of this delivery on files failed
abbrev pub event_of : ServerEvent → Event → Delivery → Event
event_of server_event.Done e d = e
event_of server_event.Broke e d = event.Fault d

-- Where it failed the count of a drawer rose.
abbrev pub RoseIf : {F : Type 0} → files.Ghosts F → ServerEvent → List (BookState F) → List (BookState F) → Type 0
RoseIf f server_event.Done books books' = Unit {0}
RoseIf f server_event.Broke books books' = BookRose f books books'

-- WHAT STANDS NEXT IS TAKEN

-- What holds of each world before and after, whatever happened before: whoever takes a message knows its kind
-- (messages_are_taken_in_order), and each is spelled as it is written (messages_are_written).
pub record DownIsLawful (w : World) (conn : ConnId) : Type 0 where
  pub taken : TakesInOrder w
  pub before : Written w
  pub after : (answered : Bool) → Written (happens w (event.Down conn answered))
  pub broken : Written (happens w (event.Fault (delivery.Down conn)))

abbrev pub DownEnds : {F R I O : Type 0} → files.Ghosts F → roads.Ghosts R I O → link_in.Ghosts I →
    link_out.Ghosts O → World → Net → ConnId → Bool → List BlockId → List (BookState F) → List (BookState F) → R → R →
    Result (Left I O) ServeFault → Type 0
DownEnds f r i o w net conn answered blocks books books' road road' (Ok left) =
    RoseIf f left.event books books' ×
    ServerLeft r i o w net (happens w (event_of left.event (event.Down conn answered) (delivery.Down conn))) conn.0
    blocks left.end books' road'
DownEnds f r i o w net conn answered blocks books books' road road' (Err why) =
    IsCausedByRoads r conn.0 road road' why

-- The same of any world that is shown.
abbrev pub EndShowsDown : {F R I O : Type 0} → files.Ghosts F → roads.Ghosts R I O → link_in.Ghosts I →
    link_out.Ghosts O → List BlockId → ReadEnd I O → List (BookState F) → List (BookState F) → R → R →
    Result (Left I O) ServeFault → Type 0
EndShowsDown f r i o blocks old books books' road road' result =
    (w : World) (net : Net) (conn : ConnId) (answered : Bool) →
    ServerStands r i o w net conn.0 blocks old books road → DownIsLawful w conn → AsksFor blocks w conn.0 →
    can_down w conn.0 ≡ true
    → DownEnds f r i o w net conn answered blocks books books' road road' result

-- The same of an end that has taken nothing yet.
abbrev pub IdleShows : {F R I O : Type 0} → files.Ghosts F → roads.Ghosts R I O → link_in.Ghosts I →
    link_out.Ghosts O → List BlockId → Conn I O → List (BookState F) → List (BookState F) → R → R →
    Result (Left I O) ServeFault → Type 0
IdleShows f r i o blocks e books books' road road' result =
    EndShowsDown f r i o blocks (read_end.Idle e) books books' road road' result

-- what is left: this end, and how the event ended
abbrev pub left_as : {I O : Type 0} → ReadEnd I O → Result ServerEvent ServeFault → Result (Left I O) ServeFault
left_as e (Ok ended) = Ok (record { end = e; event = ended })
left_as e (Err why) = Err why

-- The lower end takes what stands next, on the connection that it was made for.
pub record DownShows {F R I O : Type 0} (f : files.Ghosts F) (r : roads.Ghosts R I O) (i : link_in.Ghosts I)
    (o : link_out.Ghosts O) (blocks : List BlockId) (old new : ReadServer I O) (books books' : List (BookState F))
    (road road' : R) (result : Result ServerEvent ServeFault) : Type 0 where
  pub conn : new.conn ≡ old.conn
  pub shows : EndShowsDown f r i o blocks old.end books books' road road' (left_as new.end result)

-- A PACKET IS SENT

-- A packet is the world's where the files of the books are told.
abbrev pub IfServing : {F I O : Type 0} → files.Ghosts F → List (BookState F) → ReadEnd I O → Type 0 → Type 0
IfServing f books (read_end.Serving read place) P = AreTold f books → P
IfServing f books other P = P

abbrev pub ReadyEnds : {F R I O : Type 0} → files.Ghosts F → roads.Ghosts R I O → link_in.Ghosts I →
    link_out.Ghosts O → World → Net → ConnId → List BlockId → List (BookState F) → List (BookState F) → R → R →
    Result (Left I O) ServeFault → Type 0
ReadyEnds f r i o w net conn blocks books books' road road' (Ok left) =
    RoseIf f left.event books books' ×
    IfServing f books left.end (ServerLeft r i o w net
    (happens w (event_of left.event (event.Ready conn) (delivery.Ready conn))) conn.0 blocks left.end books' road')
ReadyEnds f r i o w net conn blocks books books' road road' (Err why) = IsCaused f r conn.0 books road road' why

abbrev pub EndShowsReady : {F R I O : Type 0} → files.Ghosts F → roads.Ghosts R I O → link_in.Ghosts I →
    link_out.Ghosts O → ReadEnd I O → List (BookState F) → List (BookState F) → R → R →
    Result (Left I O) ServeFault → Type 0
EndShowsReady f r i o old books books' road road' result =
    (w : World) (net : Net) (conn : ConnId) (blocks : List BlockId) →
    ServerStands r i o w net conn.0 blocks old books road → can_ready w conn.0 ≡ true
    → ReadyEnds f r i o w net conn blocks books books' road road' result

-- The node acts without a message, on the connection that the lower end was made for.
pub record ReadyShows {F R I O : Type 0} (f : files.Ghosts F) (r : roads.Ghosts R I O) (i : link_in.Ghosts I)
    (o : link_out.Ghosts O) (old new : ReadServer I O) (books books' : List (BookState F)) (road road' : R)
    (result : Result ServerEvent ServeFault) : Type 0 where
  pub conn : new.conn ≡ old.conn
  pub shows : EndShowsReady f r i o old.end books books' road road' (left_as new.end result)
