-- What the events of a play make of a player and roads that show a world.
use Rattle.std.specs.Prelude.{◌≡◌, ℕ, Bool, true, false, List, ◌++◌, [], ◌∷◌, map, slice_get, Option, Some, None, IsSome, Result, Ok, Err}
use Rattle.hd_base.specs.RoadFaults.{RoadsFailed}
use Rattle.hd_base.specs.declared.files.Files as files
use Rattle.hd_base.specs.declared.links.LinkIn as link_in
use Rattle.hd_base.specs.declared.links.LinkOut as link_out
use Rattle.hd_base.specs.declared.numbers.BlockId.{BlockId}
use Rattle.hd_base.specs.declared.numbers.ConnId.{ConnId}
use Rattle.hd_base.specs.declared.numbers.NodeId.{NodeId}
use Rattle.hd_base.specs.declared.roads.Roads as roads
use Rattle.road_traffic.specs.Showing.{Net}
use Rattle.world.specs.declared.events.Delivery.TheVariants as delivery
use Rattle.world.specs.declared.events.Event.{Event}
use Rattle.world.specs.declared.events.Event.TheVariants as event
use Rattle.world.specs.Parts.{Upper, by_member, by_writer, idle}
use Rattle.world.specs.Worlds.{World}
use Rattle.world.specs.Events.{run}
use Rattle.play_model.specs.declared.dues.Due.{Due}
use Rattle.play_model.specs.declared.dues.Due.TheVariants as due
use Rattle.play_model.specs.Dues.{Queues, is_due, due_events, queues_after}
use Rattle.play_dues.specs.PlayClients.Client.{Client}
use Rattle.play_dues.specs.PlayClients.Events.{HearIsLawful, AcceptedIsQuiet}
use Rattle.node_stops.specs.PlayNodes.Nodes.{Nodes}
use Rattle.world_writes.specs.Writes.{grows}
use Rattle.node_stops.specs.PlayNodes.Beginning.{RequestsFit}
use Rattle.node_stops.specs.PlayNodes.Events.{IsLawful, IsBusy, DrawerFailed}
use Rattle.node_stops.specs.PlayNodes.Showing.{is_pipeline}
use Rattle.play_dues.specs.PlayReaders.Asks.{asks_of}
use Rattle.play_dues.specs.PlayRecoveries.Places.{recoveries_of}
use Rattle.play.specs.declared.faults.PlayFault.{PlayFault}
use Rattle.play.specs.declared.faults.PlayFault.TheVariants as fault
use Rattle.play.specs.declared.player.Player.{Player}
use Rattle.play.specs.Running.{is_running}
use Rattle.play.specs.Showing.{PlayerShows}

-- All files of this kind are told.
abbrev pub FilesTell : {F : Type 0} → files.Ghosts F → Type 0
FilesTell {F} f = (x : F) → IsSome (f.files x)

-- The event stands behind the others, and all else is as it was.
pub record IsKept {F I O : Type 0} (old new : Player F I O) (e : Event) : Type 0 where
  pub same : new ≡ record old { events = new.events }
  pub events : new.events.items ≡ old.events.items ++ e ∷ []

-- An event was kept, or memory ran out.
abbrev pub Keeps : {F I O : Type 0} → Player F I O → Player F I O → Event → Result (Unit {0}) PlayFault → Type 0
Keeps old new e (Ok u) = IsKept old new e
Keeps old new e (Err why) = why ≡ fault.Memory

-- that a member took what stood next, or that a write failed in it
abbrev pub down_event : ConnId → Bool → Event
down_event conn true = event.Fault (delivery.Down conn)
down_event conn false = event.Down conn true

-- It was kept, and it is told whether a write came with it; or memory ran out.
abbrev pub KeepsDown : {F I O : Type 0} → Player F I O → Player F I O → ConnId → Bool → Bool → Result Bool PlayFault →
    Type 0
KeepsDown old new conn fails writes (Ok told) = IsKept old new (down_event conn fails) × (told ≡ writes)
KeepsDown old new conn fails writes (Err why) = why ≡ fault.Memory

-- Each fault has its cause.
abbrev pub IsCaused : {F R I O : Type 0} → files.Ghosts F → roads.Ghosts R I O → Player F I O → Player F I O → R → R →
    PlayFault → Type 0
IsCaused f r old new road road' fault.RoadFault = RoadsFailed r road road'
IsCaused f r old new road road' (fault.ShelfFault node) = DrawerFailed f old.nodes new.nodes node
IsCaused f r old new road road' fault.Memory = Unit {0}

-- the writer at an upper end
abbrev pub writer_at : Upper → Option ℕ
writer_at (by_writer b) = Some b
writer_at other = None

-- the block whose writer acts, or takes what stands next, if one does
abbrev pub actor_of : World → Due → Option ℕ
actor_of w (due.Own b) = Some b.0
actor_of w (due.Up c) = writer_at (w.dialled c.0).upper
actor_of w other = None

-- A client stood at the place before, for the same block and with the same rule; it is the same one, unless its writer is
-- this one.
pub record StaysAt {I O : Type 0} (olds : List (Client I O)) (actor : Option ℕ) (k : ℕ) (c : Client I O) : Type 0 where
  pub was : Client I O
  pub at : slice_get olds k ≡ Some was
  pub block : c.block ≡ was.block
  pub rule : c.rule ≡ was.rule
  pub same : (actor ≡ Some was.block.0 → ⊥) → c ≡ was

-- the blocks of clients
abbrev pub blocks_of : {I O : Type 0} → List (Client I O) → List BlockId
blocks_of clients = map (λ c. c.block) clients

-- The blocks of the nodes stay, the clients at their places, for the same blocks, what the readers ask, and what the
-- primaries are to recover.
pub record KeepsPlaces {F I O : Type 0} (actor : Option ℕ) (old new : Player F I O) : Type 0 where
  pub blocks : new.nodes.blocks.items ≡ old.nodes.blocks.items
  pub order : blocks_of new.clients.items ≡ blocks_of old.clients.items
  pub asks : asks_of new.reads.clients.items ≡ asks_of old.reads.clients.items
  pub recovers : recoveries_of new.recoveries.clients.items ≡ recoveries_of old.recoveries.clients.items
  pub each : (k : ℕ) (c : Client I O) → slice_get new.clients.items k ≡ Some c → StaysAt old.clients.items actor k c

-- What happens: the events, the commands that are queued after them, and the block whose writer acts, if one does.
pub record Happening : Type 0 where
  pub events : List Event
  pub queues : Queues
  pub actor : Option ℕ

-- something that is due happens
abbrev pub due_happens : World → Queues → Due → Happening
due_happens w queues d = record {
  events = due_events w queues d;
  queues = queues_after w queues d;
  actor = actor_of w d;
}

-- a write on a data file fails at the lower end of a connection, in the place of what is due there
abbrev pub write_fails : Queues → ConnId → Happening
write_fails queues conn = record { events = event.Fault (delivery.Down conn) ∷ []; queues = queues; actor = None }

-- What is left once this has happened: its events were kept, and the player shows the world after them.
pub record HappeningLeft {F R I O : Type 0} (r : roads.Ghosts R I O) (i : link_in.Ghosts I) (o : link_out.Ghosts O)
    (w : World) (h : Happening) (old new : Player F I O) (road : R) : Type 0 where
  pub made : Net
  pub shows : PlayerShows r i o (run w h.events) made h.queues road new
  pub events : new.events.items ≡ old.events.items ++ h.events
  pub places : KeepsPlaces h.actor old new

abbrev pub PlayerLeft : {F R I O : Type 0} → roads.Ghosts R I O → link_in.Ghosts I → link_out.Ghosts O → World →
    Queues → Due → Player F I O → Player F I O → R → Type 0
PlayerLeft r i o w queues d old new road = HappeningLeft r i o w (due_happens w queues d) old new road

-- How it ends: so, or by a fault that has its cause.
abbrev pub PlayEnds : {F R I O : Type 0} → files.Ghosts F → roads.Ghosts R I O → link_in.Ghosts I → link_out.Ghosts O →
    World → Queues → Due → Player F I O → Player F I O → R → R → Result (Unit {0}) PlayFault → Type 0
PlayEnds f r i o w queues d old new road road' (Ok u) = PlayerLeft r i o w queues d old new road'
PlayEnds f r i o w queues d old new road road' (Err why) = IsCaused f r old new road road' why

abbrev pub ReadyShows : {F R I O : Type 0} → files.Ghosts F → roads.Ghosts R I O → link_in.Ghosts I →
    link_out.Ghosts O → ConnId → Player F I O → Player F I O → R → R → Result (Unit {0}) PlayFault → Type 0
ReadyShows f r i o conn old new road road' result =
    (w : World) (net : Net) (queues : Queues) → PlayerShows r i o w net queues road old →
    is_pipeline (w.dialled conn.0).upper ≡ true → IsLawful w (event.Ready conn) → is_due w queues (due.Ready conn) ≡ true
    → PlayEnds f r i o w queues (due.Ready conn) old new road road' result

-- What happens where a member takes what stands next from above: a write on its data file, if it comes with one, fails where
-- such writes are refused.
abbrev pub down_happens : World → Queues → ConnId → Bool → Bool → Happening
down_happens w queues conn true true = write_fails queues conn
down_happens w queues conn refuses writes = due_happens w queues (due.Down conn)

-- That is left, and it is told whether a write came with it: whether the replica grew, or would have.
pub record DownLeft {F R I O : Type 0} (r : roads.Ghosts R I O) (i : link_in.Ghosts I) (o : link_out.Ghosts O)
    (w : World) (queues : Queues) (conn : ConnId) (refuses writes : Bool) (old new : Player F I O) (road : R) : Type 0 where
  pub is_left : HappeningLeft r i o w (down_happens w queues conn refuses writes) old new road
  pub grown : writes ≡ grows w conn.0

abbrev pub DownEnds : {F R I O : Type 0} → files.Ghosts F → roads.Ghosts R I O → link_in.Ghosts I → link_out.Ghosts O →
    World → Queues → ConnId → Bool → Player F I O → Player F I O → R → R → Result Bool PlayFault → Type 0
DownEnds f r i o w queues conn refuses old new road road' (Ok writes) =
    DownLeft r i o w queues conn refuses writes old new road'
DownEnds f r i o w queues conn refuses old new road road' (Err why) = IsCaused f r old new road road' why

-- A member takes what stands next from above. Where writes are refused all files are told.
abbrev pub DownShows : {F R I O : Type 0} → files.Ghosts F → roads.Ghosts R I O → link_in.Ghosts I → link_out.Ghosts O →
    ConnId → Bool → Player F I O → Player F I O → R → R → Result Bool PlayFault → Type 0
DownShows f r i o conn refuses old new road road' result =
    (w : World) (net : Net) (queues : Queues) → PlayerShows r i o w net queues road old →
    is_pipeline (w.dialled conn.0).upper ≡ true → IsLawful w (event.Down conn true) →
    is_due w queues (due.Down conn) ≡ true → IsBusy w conn.0 → (refuses ≡ true → FilesTell f)
    → DownEnds f r i o w queues conn refuses old new road road' result

abbrev pub MirrorShows : {F R I O : Type 0} → files.Ghosts F → roads.Ghosts R I O → link_in.Ghosts I →
    link_out.Ghosts O → ConnId → Player F I O → Player F I O → R → R → Result (Unit {0}) PlayFault → Type 0
MirrorShows f r i o conn old new road road' result =
    (w : World) (net : Net) (queues : Queues) (d : ℕ) → PlayerShows r i o w net queues road old →
    IsLawful w (event.Up conn) → is_due w queues (due.Up conn) ≡ true → (w.dialled conn.0).upper ≡ by_member d
    → PlayEnds f r i o w queues (due.Up conn) old new road road' result

abbrev pub HeardShows : {F R I O : Type 0} → files.Ghosts F → roads.Ghosts R I O → link_in.Ghosts I →
    link_out.Ghosts O → ConnId → ℕ → Player F I O → Player F I O → R → R → Result (Unit {0}) PlayFault → Type 0
HeardShows {F} {R} {I} {O} f r i o conn place old new road road' result =
    (w : World) (net : Net) (queues : Queues) (c : Client I O) → PlayerShows r i o w net queues road old →
    slice_get old.clients.items place ≡ Some c → HearIsLawful w c.block.0 → is_due w queues (due.Up conn) ≡ true →
    (w.dialled conn.0).upper ≡ by_writer c.block.0 → AcceptedIsQuiet w c.block.0
    → PlayEnds f r i o w queues (due.Up conn) old new road road' result

-- What is asked of the world where an end takes its first message: each request is for a block of the play
-- (requests_are_among).
pub record CanBegin {F I O : Type 0} (w : World) (conn : ConnId) (n : Nodes F I O) : Type 0 where
  pub lawful : (answered : Bool) → IsLawful w (event.Down conn answered)
  pub fit : RequestsFit w n

-- The event is kept, unless a node that runs didn't answer a dial; or memory ran out.
abbrev pub Begins : {F I O : Type 0} → Player F I O → Player F I O → ConnId → Option NodeId →
    Result (Unit {0}) PlayFault → Type 0
Begins old new conn unanswered (Ok u) = (is_running old unanswered ≡ false) × IsKept old new (event.Down conn true)
Begins old new conn unanswered (Err fault.RoadFault) = is_running old unanswered ≡ true
Begins old new conn unanswered (Err fault.Memory) = Unit {0}
Begins old new conn unanswered (Err other) = ⊥

abbrev pub BeginShows : {F R I O : Type 0} → files.Ghosts F → roads.Ghosts R I O → link_in.Ghosts I →
    link_out.Ghosts O → ConnId → Player F I O → Player F I O → R → R → Result (Unit {0}) PlayFault → Type 0
BeginShows f r i o conn old new road road' result =
    (w : World) (net : Net) (queues : Queues) → PlayerShows r i o w net queues road old →
    is_pipeline (w.dialled conn.0).upper ≡ true → CanBegin w conn old.nodes → is_due w queues (due.Down conn) ≡ true →
    w.lowers conn.0 ≡ idle
    → PlayEnds f r i o w queues (due.Down conn) old new road road' result
