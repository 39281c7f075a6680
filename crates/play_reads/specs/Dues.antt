-- Which events of the reads are due, as reads and roads tell.
use Rattle.std.specs.Prelude.{◌≡◌, ◌<◌, ℕ, Bool, false, not, List, slice_get, Option, Some, None}
use Rattle.hd_base.specs.declared.links.LinkIn as link_in
use Rattle.hd_base.specs.declared.links.LinkOut as link_out
use Rattle.hd_base.specs.declared.numbers.BlockId.{BlockId}
use Rattle.hd_base.specs.declared.numbers.ConnId.{ConnId}
use Rattle.hd_base.specs.declared.roads.Roads as roads
use Rattle.road_traffic.specs.Showing.{Net}
use Rattle.world.specs.Enabled.{reads_from}
use Rattle.world.specs.Parts as parts
use Rattle.world.specs.Parts.{by_reader, no_reader}
use Rattle.world.specs.Worlds.{World}
use Rattle.play_nodes.specs.WorldOrders.Open.{OpenEnds}
use Rattle.play_nodes.specs.WorldOrders.Orders.{purpose_of, reading}
use Rattle.play_nodes.specs.MemberEvents.Showing.{ShowsWorld}
use Rattle.play_primaries.specs.ReaderEvents.Orders.{ReadersTakeInOrder}
use Rattle.play_nodes.specs.PlayModel.Due.TheVariants as due
use Rattle.play_nodes.specs.PlayModel.Dues.{Queues, is_due}
use Rattle.play_nodes.specs.declared.nodes.Nodes.{Nodes}
use Rattle.play_nodes.specs.Showing.{has_events, NodesShow}
use Rattle.play_primaries.specs.PlayReaders.ReadClient.{ReadClient}
use Rattle.play_reads.specs.declared.reads.Reads.{Reads}
use Rattle.play_reads.specs.Showing.{ReadsShow, OnRoads, ReadsStand}

-- Whether the own step of the reader of the client at a place is due.
abbrev pub TellsStep : {I O : Type 0} → link_in.Ghosts I → link_out.Ghosts O → ℕ → Reads I O → Bool → Type 0
TellsStep {I} {O} i o place reads result =
    (w : World) (net : Net) (queues : Queues) (blocks : List BlockId) (c : ReadClient I O) →
    ReadsShow i o w net blocks reads → slice_get reads.clients.items place ≡ Some c
    → result ≡ is_due w queues (due.Reader c.ask)

-- Whether it is due that the lower end of a connection that a reader dialled takes what stands next; the roads show
-- what they showed. Whoever may still take hasn't taken the end, as after all events (takers_are_open).
abbrev pub TellsDown : {R I O : Type 0} → roads.Ghosts R I O → link_in.Ghosts I → link_out.Ghosts O → ConnId →
    Reads I O → R → R → Bool → Type 0
TellsDown r i o conn reads road road' result =
    (w : World) (net : Net) (queues : Queues) (blocks : List BlockId) → OnRoads r i o w net road blocks reads →
    OpenEnds w → conn.0 < w.next_conn → purpose_of (w.dialled conn.0).upper ≡ reading
    → ShowsWorld r w net road' × (result ≡ is_due w queues (due.Down conn))

-- Whether it is due that it sends a packet.
abbrev pub TellsReady : {I O : Type 0} → link_in.Ghosts I → link_out.Ghosts O → ConnId → Reads I O → Bool → Type 0
TellsReady i o conn reads result =
    (w : World) (net : Net) (queues : Queues) (blocks : List BlockId) → ReadsShow i o w net blocks reads →
    conn.0 < w.next_conn → purpose_of (w.dialled conn.0).upper ≡ reading
    → result ≡ is_due w queues (due.Ready conn)

-- Whether it is due that a reader takes what stands next on a connection that it dialled; the roads show what they
-- showed. Readers take in order, as after all events (readers_take_in_order).
abbrev pub TellsUp : {F R I O : Type 0} → roads.Ghosts R I O → link_in.Ghosts I → link_out.Ghosts O → ConnId →
    Nodes F I O → Reads I O → R → R → Bool → Type 0
TellsUp r i o conn n reads road road' result =
    (w : World) (net : Net) (queues : Queues) → ReadsStand r i o w net road n reads → ReadersTakeInOrder w →
    conn.0 < w.next_conn → purpose_of (w.dialled conn.0).upper ≡ reading
    → ShowsWorld r w net road' × (result ≡ is_due w queues (due.Up conn))

-- Whether the lower end of a connection that a reader dialled has no further events.
abbrev pub TellsEnded : {I O : Type 0} → link_in.Ghosts I → link_out.Ghosts O → ConnId → Reads I O → Bool → Type 0
TellsEnded i o conn reads result =
    (w : World) (net : Net) (blocks : List BlockId) → ReadsShow i o w net blocks reads → conn.0 < w.next_conn →
    purpose_of (w.dialled conn.0).upper ≡ reading
    → result ≡ not (has_events w conn.0)

-- a reader dialled this connection, and reads over it
abbrev pub is_read_by : World → ℕ → parts.Upper → Bool
is_read_by w c (by_reader reader) = reads_from (w.readers reader) c
is_read_by w c other = false

-- Whether the reader that dialled a connection reads over it.
abbrev pub TellsOver : {F I O : Type 0} → link_in.Ghosts I → link_out.Ghosts O → ConnId → Nodes F I O → Reads I O →
    Bool → Type 0
TellsOver i o conn n reads result =
    (w : World) (net : Net) → NodesShow i o w net n → ReadsShow i o w net n.blocks.items reads → conn.0 < w.next_conn
    → result ≡ is_read_by w conn.0 (w.dialled conn.0).upper

-- the reader that dialled, if one did
abbrev pub reader_in : parts.Upper → Option ℕ
reader_in (by_reader reader) = Some reader
reader_in other = None

-- Which reader dialled a connection, if one did.
abbrev pub TellsDialler : {F I O : Type 0} → link_in.Ghosts I → link_out.Ghosts O → ConnId → Nodes F I O → Option ℕ →
    Type 0
TellsDialler i o conn n result =
    (w : World) (net : Net) → NodesShow i o w net n → conn.0 < w.next_conn
    → result ≡ reader_in (w.dialled conn.0).upper

-- The client of the reader that dialled stands at this place.
pub record IsClientOf {I O : Type 0} (w : World) (c : ℕ) (clients : List (ReadClient I O)) (place : ℕ) : Type 0 where
  pub client : ReadClient I O
  pub at : slice_get clients place ≡ Some client
  pub dialled : (w.dialled c).upper ≡ by_reader client.ask.reader

-- Where it stands, if it does: no reader that hasn't a client has begun.
abbrev pub ClientIs : {I O : Type 0} → World → ℕ → List (ReadClient I O) → Option ℕ → Type 0
ClientIs w c clients (Some place) = IsClientOf w c clients place
ClientIs w c clients None = (reader : ℕ) → (w.dialled c).upper ≡ by_reader reader → w.readers reader ≡ no_reader

abbrev pub TellsClient : {F I O : Type 0} → link_in.Ghosts I → link_out.Ghosts O → ConnId → Nodes F I O → Reads I O →
    Option ℕ → Type 0
TellsClient i o conn n reads result =
    (w : World) (net : Net) → NodesShow i o w net n → ReadsShow i o w net n.blocks.items reads → conn.0 < w.next_conn
    → ClientIs w conn.0 reads.clients.items result
