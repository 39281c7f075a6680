-- What a reading client tells of the world that it shows.
use Rattle.std.specs.Prelude.{◌≡◌, ℕ, Bool, option_map, Option, Some, None}
use Rattle.hd_base.specs.declared.links.LinkIn as link_in
use Rattle.hd_base.specs.declared.links.LinkOut as link_out
use Rattle.hd_base.specs.declared.numbers.ConnId.{ConnId}
use Rattle.hd_base.specs.declared.roads.Roads as roads
use Rattle.road_traffic.specs.Showing.{Net}
use Rattle.play_model.specs.World.Enabled.{can_up}
use Rattle.play_model.specs.World.Events.{is_enabled}
use Rattle.play_model.specs.World.Parts.{by_reader, Reader, reads}
use Rattle.play_model.specs.World.Worlds.{World}
use Rattle.reader_events.specs.Orders.{ReadersTakeInOrder}
use Rattle.play_model.specs.declared.dues.Due.TheVariants as due
use Rattle.play_model.specs.Asks.{asking_node}
use Rattle.play_model.specs.Dues.{Queues, is_due}
use Rattle.play_readers.specs.declared.clients.ReadClient.{ReadClient}
use Rattle.play_readers.specs.Clients.{ReadClientShows, ReadClientStands}

-- Whether the reader may ask its node.
abbrev pub TellsStep : {I O : Type 0} → link_in.Ghosts I → link_out.Ghosts O → ReadClient I O → Bool → Type 0
TellsStep i o c result =
    (w : World) (net : Net) (answered : Bool) → ReadClientShows i o w net c
    → result ≡ is_enabled w (asking_node c.ask answered)

-- Whether its own step is due.
abbrev pub TellsBegins : {I O : Type 0} → link_in.Ghosts I → link_out.Ghosts O → ReadClient I O → Bool → Type 0
TellsBegins i o c result =
    (w : World) (net : Net) (queues : Queues) → ReadClientShows i o w net c
    → result ≡ is_due w queues (due.Reader c.ask)

-- the connection over which a reader reads
abbrev pub conn_read : Reader → Option ℕ
conn_read (reads c s) = Some c
conn_read other = None

-- Over which connection the reader reads, if it does.
abbrev pub TellsConn : {I O : Type 0} → link_in.Ghosts I → link_out.Ghosts O → ReadClient I O → Option ConnId → Type 0
TellsConn i o c result =
    (w : World) (net : Net) → ReadClientShows i o w net c
    → option_map (λ (n : ConnId). n.0) result ≡ conn_read (w.readers c.ask.reader)

-- Whether the reader takes what stands next on a connection that it dialled; the roads show what they showed. Readers
-- take in order in the world, as after all events (readers_take_in_order).
abbrev pub TellsReader : {R I O : Type 0} → roads.Ghosts R I O → link_in.Ghosts I → link_out.Ghosts O → ConnId →
    ReadClient I O → R → R → Bool → Type 0
TellsReader r i o conn c road road' result =
    (w : World) (net : Net) → ReadClientStands r i o w net c road → ReadersTakeInOrder w →
    (w.dialled conn.0).upper ≡ by_reader c.ask.reader
    → ReadClientStands r i o w net c road' × (result ≡ can_up w conn.0)
