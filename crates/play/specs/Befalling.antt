-- What befalls a play where something is due: it happens, unless a write on a data file fails in its place.
use Rattle.std.specs.Prelude.{◌≡◌, ◌-◌, ◌==◌, ◌&&◌, ℕ, Bool, true, false, List, slice_get, unwrap_or, Option, Some, None, Result, Ok, Err}
use Rattle.hd_base.specs.declared.files.Files as files
use Rattle.hd_base.specs.declared.links.LinkIn as link_in
use Rattle.hd_base.specs.declared.links.LinkOut as link_out
use Rattle.hd_base.specs.declared.numbers.ConnId.{ConnId}
use Rattle.hd_base.specs.declared.roads.Roads as roads
use Rattle.road_traffic.specs.Showing.{Net}
use Rattle.world.specs.Worlds.{World}
use Rattle.play_model.specs.declared.dues.Due.{Due}
use Rattle.play_model.specs.declared.dues.Due.TheVariants as due
use Rattle.play_model.specs.Dues.{Queues, is_due, queues_after}
use Rattle.play_model.specs.Faults.{Faults, write_node, befall_events, befall_faults}
use Rattle.play_laws.specs.WorldOrders.Orders.{Ordered}
use Rattle.node_stops.specs.PlayNodes.Events.{IsBusy}
use Rattle.node_stops.specs.PlayNodes.Nodes.{Nodes}
use Rattle.node_stops.specs.PlayNodes.Showing.{is_pipeline, NodesShow}
use Rattle.play.specs.declared.faults.PlayFault.{PlayFault}
use Rattle.play.specs.declared.player.Player.{Player}
use Rattle.play.specs.Events.{FilesTell, Happening, IsCaused, actor_of}
use Rattle.play.specs.Reading.{ReadsAreTold}
use Rattle.play.specs.Standing.{ActorIsClient, HasDone, PlayStands, world_of}

-- NUMBERS

-- the number of a node, 0 where it has none
abbrev pub number_in : List ℕ → ℕ → ℕ
number_in numbers node = unwrap_or (slice_get numbers node) 0

-- The numbers tell of each node which of the writes on a data file that come there fails.
abbrev pub TellsFaults : Faults → List ℕ → Type 0
TellsFaults faults numbers = (node : ℕ) → number_in numbers node ≡ faults node

-- Wherever a write is to fail all files are told.
abbrev pub FaultsAreTold : {F : Type 0} → files.Ghosts F → Faults → Type 0
FaultsAreTold f faults = (node : ℕ) → (faults node ≡ 0 → ⊥) → FilesTell f

-- the number of a node after a write there
abbrev pub number_after : Bool → List ℕ → ℕ → ℕ
number_after true numbers node = number_in numbers node - 1
number_after false numbers node = number_in numbers node

-- The number of a node has run down if something was written there; all others are as they were.
abbrev pub RunsDown : Bool → ℕ → List ℕ → List ℕ → Type 0
RunsDown writes node old new = (n : ℕ) → number_in new n ≡ number_after (writes && (n == node)) old n

-- WHAT BEFALLS

-- the connection at which the lower end takes what stands next, if it is that
abbrev pub down_of : Due → Option ConnId
down_of (due.Down conn) = Some conn
down_of other = None

-- It is due that a member which has taken its first message takes what stands next on this connection.
pub record IsAtMember (w : World) (d : Due) (conn : ConnId) : Type 0 where
  pub is_down : d ≡ due.Down conn
  pub piped : is_pipeline (w.dialled conn.0).upper ≡ true
  pub busy : IsBusy w conn.0

-- So it is, or nothing is written on a data file.
abbrev pub MayWrite : World → Due → Option ConnId → Type 0
MayWrite w d None = write_node w d ≡ None
MayWrite w d (Some conn) = IsAtMember w d conn

-- So it is of each world that the nodes show, and in which messages come in order (messages_come_in_order).
abbrev pub TellsWriting : {F I O : Type 0} → link_in.Ghosts I → link_out.Ghosts O → Due → Nodes F I O → Option ConnId →
    Type 0
TellsWriting i o d n result =
    (w : World) (net : Net) (queues : Queues) → NodesShow i o w net n → Ordered w → is_due w queues d ≡ true
    → MayWrite w d result

-- what happens, with the event in which a write fails where one does
abbrev pub befalling : World → Queues → Faults → Due → Happening
befalling w queues faults d = record {
  events = befall_events w queues faults d;
  queues = queues_after w queues d;
  actor = actor_of w d;
}

-- It has befallen, and the numbers have run down with it.
pub record HasBefallen {F R I O : Type 0} (r : roads.Ghosts R I O) (i : link_in.Ghosts I) (o : link_out.Ghosts O)
    (nodes : ℕ) (queues : Queues) (faults : Faults) (d : Due) (numbers : List ℕ) (old new : Player F I O) (road : R)
    : Type 0 where
  pub done : HasDone r i o nodes queues (befalling (world_of nodes old) queues faults d) old new road
  pub numbers_are : TellsFaults (befall_faults (world_of nodes old) faults d) numbers

-- So it has, or there was a fault that has its cause.
abbrev pub BefallEnds : {F R I O : Type 0} → files.Ghosts F → roads.Ghosts R I O → link_in.Ghosts I →
    link_out.Ghosts O → ℕ → Queues → Faults → Due → List ℕ → Player F I O → Player F I O → R → R →
    Result (Unit {0}) PlayFault → Type 0
BefallEnds f r i o nodes queues faults d numbers old new road road' (Ok u) =
    HasBefallen r i o nodes queues faults d numbers old new road'
BefallEnds f r i o nodes queues faults d numbers old new road road' (Err why) = IsCaused f r old new road road' why

-- Something that is due befalls. Where there is a reader, or a write is to fail, all files are told.
abbrev pub BefallShows : {F R I O : Type 0} → files.Ghosts F → roads.Ghosts R I O → link_in.Ghosts I →
    link_out.Ghosts O → Due → List ℕ → List ℕ → Player F I O → Player F I O → R → R → Result (Unit {0}) PlayFault →
    Type 0
BefallShows f r i o d numbers numbers' old new road road' result =
    (nodes : ℕ) (queues : Queues) (faults : Faults) → PlayStands r i o nodes queues road old →
    TellsFaults faults numbers → FaultsAreTold f faults → is_due (world_of nodes old) queues d ≡ true →
    ActorIsClient old d → ReadsAreTold f old
    → BefallEnds f r i o nodes queues faults d numbers' old new road road' result

-- What is due at a member that has taken its first message befalls.
abbrev pub MemberBefalls : {F R I O : Type 0} → files.Ghosts F → roads.Ghosts R I O → link_in.Ghosts I →
    link_out.Ghosts O → ConnId → List ℕ → List ℕ → Player F I O → Player F I O → R → R → Result (Unit {0}) PlayFault →
    Type 0
MemberBefalls f r i o conn numbers numbers' old new road road' result =
    (nodes : ℕ) (queues : Queues) (faults : Faults) → PlayStands r i o nodes queues road old →
    TellsFaults faults numbers → FaultsAreTold f faults → is_due (world_of nodes old) queues (due.Down conn) ≡ true →
    is_pipeline ((world_of nodes old).dialled conn.0).upper ≡ true → IsBusy (world_of nodes old) conn.0
    → BefallEnds f r i o nodes queues faults (due.Down conn) numbers' old new road road' result
