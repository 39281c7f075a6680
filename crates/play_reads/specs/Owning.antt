-- What the own step of a reader makes of reads, nodes and roads that show a world.
use Rattle.std.specs.Prelude.{◌≡◌, ◌++◌, [], ◌∷◌, ℕ, true, slice_get, Some, Result, Ok, Err}
use Rattle.hd_base.specs.declared.ends.Conn.{Conn}
use Rattle.hd_base.specs.declared.files.Files as files
use Rattle.hd_base.specs.declared.links.LinkIn as link_in
use Rattle.hd_base.specs.declared.links.LinkOut as link_out
use Rattle.hd_base.specs.declared.roads.Roads as roads
use Rattle.road_traffic.specs.Showing.{Net}
use Rattle.world.specs.Events.{happens}
use Rattle.world.specs.Worlds.{World}
use Rattle.play_nodes.specs.WorldLaws.Placing.{Placed}
use Rattle.play_nodes.specs.WorldOrders.Orders.{Ordered}
use Rattle.play_nodes.specs.PlayModel.ReadAsk.{ReadAsk}
use Rattle.play_nodes.specs.PlayModel.Asks.{asking_node}
use Rattle.play_primaries.specs.ReaderEvents.Asking.{CanAsk}
use Rattle.play_nodes.specs.declared.connections.Upper.TheVariants as upper
use Rattle.play_nodes.specs.declared.nodes.Nodes.{Nodes}
use Rattle.play_nodes.specs.Elsewhere.{StandsBehind, ReadShows}
use Rattle.play_primaries.specs.PlayReaders.ReadClient.{ReadClient}
use Rattle.play_servers.specs.declared.servers.ReadEnd.TheVariants as read_end
use Rattle.play_servers.specs.declared.servers.ReadServer.{ReadServer}
use Rattle.play_reads.specs.declared.faults.ReadsFault.{ReadsFault}
use Rattle.play_reads.specs.declared.faults.ReadsFault.TheVariants as fault
use Rattle.play_reads.specs.declared.reads.Reads.{Reads}
use Rattle.play_reads.specs.Faults.{IsCaused}
use Rattle.play_reads.specs.Left.{ReadsLeft}
use Rattle.play_reads.specs.Showing.{ReadsStand}

-- STEPS OF THE EVENT

-- a lower end that has taken nothing yet
abbrev pub made_server : {I O : Type 0} → Conn I O → ReadServer I O
made_server end = record { conn = end.id; end = read_end.Idle end }

-- It stands behind the others, and the clients are as they were; or memory ran out.
abbrev pub Serves : {I O : Type 0} → Conn I O → Reads I O → Reads I O → Result (Unit {0}) ReadsFault → Type 0
Serves end old new (Ok u) =
    (new.clients ≡ old.clients) × (new.servers.items ≡ old.servers.items ++ made_server end ∷ [])
Serves end old new (Err why) = why ≡ fault.Memory

-- The connection that was dialled stands behind the others of the nodes, and its lower end behind the others of the
-- reads.
pub record IsReached {F I O : Type 0} (i : link_in.Ghosts I) (o : link_out.Ghosts O) (ask : ReadAsk) (end : Conn I O)
    (n n' : Nodes F I O) (old new : Reads I O) : Type 0 where
  pub clients : new.clients ≡ old.clients
  pub servers : new.servers.items ≡ old.servers.items ++ made_server end ∷ []
  pub behind : StandsBehind (upper.Reader ask.reader) ask.node n n'
  pub shows : ReadShows i o ask.reader ask.node n n' (Ok tt)

-- So they do, or memory ran out.
abbrev pub Reaches : {F I O : Type 0} → link_in.Ghosts I → link_out.Ghosts O → ReadAsk → Conn I O → Nodes F I O →
    Nodes F I O → Reads I O → Reads I O → Result (Unit {0}) ReadsFault → Type 0
Reaches i o ask end n n' old new (Ok u) = IsReached i o ask end n n' old new
Reaches i o ask end n n' old new (Err why) = why ≡ fault.Memory

-- BEFORE AND AFTER THE EVENT

-- What holds of each world before the event, whatever happened before: messages come in order (messages_come_in_order),
-- and every index is in range (indices_are_in_range).
pub record OwnIsLawful (w : World) : Type 0 where
  pub ordered : Ordered w
  pub placed : Placed w

-- How it ends: what is left shows the world after it, in which the dial was answered if the node runs; or a fault has
-- its cause.
abbrev pub OwnEnds : {F R I O : Type 0} → files.Ghosts F → roads.Ghosts R I O → link_in.Ghosts I → link_out.Ghosts O →
    World → Net → ReadAsk → Nodes F I O → Nodes F I O → Reads I O → Reads I O → R → R →
    Result (Unit {0}) ReadsFault → Type 0
OwnEnds f r i o w net ask n n' old new road road' (Ok u) =
    ReadsLeft r i o w net (happens w (asking_node ask true)) road' n' old new
OwnEnds f r i o w net ask n n' old new road road' (Err why) = IsCaused f r n n' road road' why

-- The reader of the client at a place takes its own step: it hasn't begun, and the node has a port.
abbrev pub OwnShows : {F R I O : Type 0} → files.Ghosts F → roads.Ghosts R I O → link_in.Ghosts I → link_out.Ghosts O →
    ℕ → Nodes F I O → Nodes F I O → Reads I O → Reads I O → R → R → Result (Unit {0}) ReadsFault → Type 0
OwnShows {F} {R} {I} {O} f r i o place n n' old new road road' result =
    (w : World) (net : Net) (c : ReadClient I O) → ReadsStand r i o w net road n old → OwnIsLawful w →
    slice_get old.clients.items place ≡ Some c → CanAsk w c.ask.reader c.ask.node
    → OwnEnds f r i o w net c.ask n n' old new road road' result
