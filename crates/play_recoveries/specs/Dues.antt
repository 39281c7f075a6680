-- Which events of the recoveries are due, as recoveries and roads tell.
use Rattle.std.specs.Prelude.{◌≡◌, ◌<◌, ◌&&◌, ℕ, Bool, false, not, List, slice_get, Option, Some, None}
use Rattle.hd_base.specs.declared.links.LinkIn as link_in
use Rattle.hd_base.specs.declared.links.LinkOut as link_out
use Rattle.hd_base.specs.declared.numbers.BlockId.{BlockId}
use Rattle.hd_base.specs.declared.numbers.ConnId.{ConnId}
use Rattle.hd_base.specs.declared.roads.Roads as roads
use Rattle.road_traffic.specs.Showing.{Net}
use Rattle.world.specs.Enabled.{leads_from}
use Rattle.world.specs.Parts as parts
use Rattle.world.specs.Parts.{by_primary}
use Rattle.world.specs.Worlds.{World}
use Rattle.play_servers.specs.WorldNets.Nets.{is_over}
use Rattle.play_nodes.specs.WorldOrders.Open.{OpenEnds}
use Rattle.play_nodes.specs.WorldOrders.Orders.{purpose_of, recovering}
use Rattle.play_nodes.specs.MemberEvents.Showing.{ShowsWorld}
use Rattle.play_model.specs.declared.dues.Due.TheVariants as due
use Rattle.play_model.specs.Dues.{Queues, is_due}
use Rattle.play_nodes.specs.declared.nodes.Nodes.{Nodes}
use Rattle.play_nodes.specs.Showing.{has_events, NodesShow}
use Rattle.play_primaries.specs.declared.clients.PrimaryClient.{PrimaryClient}
use Rattle.play_primaries.specs.Dues.{ArePlaced}
use Rattle.play_recoveries.specs.declared.dues.Dialler.{Dialler}
use Rattle.play_recoveries.specs.declared.dues.Leader.{Leader}
use Rattle.play_recoveries.specs.declared.recoveries.Recoveries.{Recoveries}
use Rattle.play_recoveries.specs.Showing.{RecoveriesShow, OnRoads, RecoveriesStand}

-- Whether the own step of the primary of the client at a place is due.
abbrev pub TellsStep : {I O : Type 0} → link_in.Ghosts I → link_out.Ghosts O → ℕ → Recoveries I O → Bool → Type 0
TellsStep {I} {O} i o place recoveries result =
    (w : World) (net : Net) (queues : Queues) (blocks : List BlockId) (c : PrimaryClient I O) →
    RecoveriesShow i o w net blocks recoveries → slice_get recoveries.clients.items place ≡ Some c
    → result ≡ is_due w queues (due.Primary c.recovery)

-- Whether it is due that the lower end of a connection that a primary dialled takes what stands next; the roads show
-- what they showed. Whoever may still take hasn't taken the end, as after all events (takers_are_open).
abbrev pub TellsDown : {R I O : Type 0} → roads.Ghosts R I O → link_in.Ghosts I → link_out.Ghosts O → ConnId →
    Recoveries I O → R → R → Bool → Type 0
TellsDown r i o conn recoveries road road' result =
    (w : World) (net : Net) (queues : Queues) (blocks : List BlockId) → OnRoads r i o w net road blocks recoveries →
    OpenEnds w → conn.0 < w.next_conn → purpose_of (w.dialled conn.0).upper ≡ recovering
    → ShowsWorld r w net road' × (result ≡ is_due w queues (due.Down conn))

-- It does nothing without a message.
abbrev pub NoneReady : {I O : Type 0} → link_in.Ghosts I → link_out.Ghosts O → Type 0
NoneReady {I} {O} i o = (w : World) (net : Net) (queues : Queues) (blocks : List BlockId) (conn : ConnId)
    (recoveries : Recoveries I O) → RecoveriesShow i o w net blocks recoveries → conn.0 < w.next_conn →
    purpose_of (w.dialled conn.0).upper ≡ recovering
    → is_due w queues (due.Ready conn) ≡ false

-- Whether it is due that a primary takes what stands next on a connection that it dialled; the roads show what they
-- showed. Its connections stand at their places, as after all events (recoveries_fit).
abbrev pub TellsUp : {F R I O : Type 0} → roads.Ghosts R I O → link_in.Ghosts I → link_out.Ghosts O → ConnId →
    Nodes F I O → Recoveries I O → R → R → Bool → Type 0
TellsUp r i o conn n recoveries road road' result =
    (w : World) (net : Net) (queues : Queues) → RecoveriesStand r i o w net road n recoveries → ArePlaced w →
    conn.0 < w.next_conn → purpose_of (w.dialled conn.0).upper ≡ recovering
    → ShowsWorld r w net road' × (result ≡ is_due w queues (due.Up conn))

-- Whether the lower end of a connection that a primary dialled has no further events.
abbrev pub TellsEnded : {I O : Type 0} → link_in.Ghosts I → link_out.Ghosts O → ConnId → Recoveries I O → Bool → Type 0
TellsEnded i o conn recoveries result =
    (w : World) (net : Net) (blocks : List BlockId) → RecoveriesShow i o w net blocks recoveries →
    conn.0 < w.next_conn → purpose_of (w.dialled conn.0).upper ≡ recovering
    → result ≡ not (has_events w conn.0)

-- a primary dialled this connection, and takes from it: it listens there, and hasn't taken the end
abbrev pub is_led_by : World → ℕ → parts.Upper → Bool
is_led_by w c (by_primary primary place) = leads_from (w.primaries primary) w place && not (is_over w c false)
is_led_by w c other = false

-- Whether the primary that dialled a connection takes from it.
abbrev pub TellsOver : {F I O : Type 0} → link_in.Ghosts I → link_out.Ghosts O → ConnId → Nodes F I O →
    Recoveries I O → Bool → Type 0
TellsOver i o conn n recoveries result =
    (w : World) (net : Net) → NodesShow i o w net n → RecoveriesShow i o w net n.blocks.items recoveries →
    ArePlaced w → conn.0 < w.next_conn
    → result ≡ is_led_by w conn.0 (w.dialled conn.0).upper

-- the primary that dialled, and for the member at which place, if one did
abbrev pub primary_in : parts.Upper → Option (ℕ × ℕ)
primary_in (by_primary primary place) = Some (primary, place)
primary_in other = None

-- its number, and that place
abbrev pub pair_of : Dialler → ℕ × ℕ
pair_of d = (d.primary, d.place)

-- Which primary dialled a connection, and for the member at which place, if one did.
abbrev pub TellsDialler : {F I O : Type 0} → link_in.Ghosts I → link_out.Ghosts O → ConnId → Nodes F I O →
    Option (ℕ × ℕ) → Type 0
TellsDialler i o conn n result =
    (w : World) (net : Net) → NodesShow i o w net n → conn.0 < w.next_conn
    → result ≡ primary_in (w.dialled conn.0).upper

-- The client of the primary that dialled stands there, which did so for the member at this place.
pub record IsClientOf {I O : Type 0} (w : World) (c : ℕ) (clients : List (PrimaryClient I O)) (l : Leader) : Type 0
  where
    pub client : PrimaryClient I O
    pub at : slice_get clients l.client ≡ Some client
    pub dialled : (w.dialled c).upper ≡ by_primary client.recovery.primary l.place

-- Where it stands, if a primary dialled.
abbrev pub ClientIs : {I O : Type 0} → World → ℕ → List (PrimaryClient I O) → Option Leader → Type 0
ClientIs w c clients (Some l) = IsClientOf w c clients l
ClientIs w c clients None = (primary place : ℕ) → (w.dialled c).upper ≡ by_primary primary place → ⊥

abbrev pub TellsClient : {F I O : Type 0} → link_in.Ghosts I → link_out.Ghosts O → ConnId → Nodes F I O →
    Recoveries I O → Option Leader → Type 0
TellsClient i o conn n recoveries result =
    (w : World) (net : Net) → NodesShow i o w net n → RecoveriesShow i o w net n.blocks.items recoveries →
    conn.0 < w.next_conn
    → ClientIs w conn.0 recoveries.clients.items result
