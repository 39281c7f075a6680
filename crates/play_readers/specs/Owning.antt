-- The own step of a reading client, and the world after it.
use Rattle.std.specs.Prelude.{◌≡◌, ◌+◌, Bool, true, false, Option, Some, None, IfSome, Result, Ok, Err}
use Rattle.hd_base.specs.Channels.{Plain}
use Rattle.hd_base.specs.Ends.{IsKnown}
use Rattle.hd_base.specs.declared.ends.Conn.{Conn}
use Rattle.hd_base.specs.declared.links.LinkIn as link_in
use Rattle.hd_base.specs.declared.links.LinkOut as link_out
use Rattle.hd_base.specs.declared.roads.Roads as roads
use Rattle.road_traffic.specs.Showing.{Net}
use Rattle.play_model.specs.World.Events.{happens}
use Rattle.play_model.specs.World.Parts.{by_reader}
use Rattle.play_model.specs.World.Worlds.{World}
use Rattle.world_standings.specs.WorldNets.Nets.{IsEndOf}
use Rattle.reader_events.specs.ClientEvents.Showing.{OthersStay}
use Rattle.reader_events.specs.declared.faults.ReaderFault.{ReaderFault}
use Rattle.reader_events.specs.Asking.{CanAsk}
use Rattle.reader_events.specs.Faults.{IsCaused}
use Rattle.play_readers.specs.declared.clients.ReadClient.{ReadClient}
use Rattle.play_model.specs.Asks.{asking_node}
use Rattle.play_readers.specs.Clients.{is_new, conn_of, ReadClientStands}
use Rattle.play_readers.specs.Passing.{HasEnded}

-- The node was asked: client and roads show the world after it, in which the client reads over the next connection. The
-- lower end of that has taken nothing, and stands at the node. The other ends stay.
pub record NodeReached {R I O : Type 0} (r : roads.Ghosts R I O) (i : link_in.Ghosts I) (o : link_out.Ghosts O)
    (w : World) (net : Net) (v : World) (old new : ReadClient I O) (lower : Conn I O) (road : R) : Type 0 where
  pub made : Net
  pub stands : ReadClientStands r i o v made new road
  pub ask : new.ask ≡ old.ask
  pub conn_is : conn_of new.state ≡ Some (record { 0 = w.next_conn })
  pub end_is : IsEndOf i o v made w.next_conn true lower
  pub lower_same : v.lowers w.next_conn ≡ w.lowers w.next_conn
  pub upper : (v.dialled w.next_conn).upper ≡ by_reader old.ask.reader
  pub node_is : (v.dialled w.next_conn).to.node ≡ old.ask.node.0
  pub last : v.next_conn ≡ w.next_conn + 1
  pub others : OthersStay i o w net v made None

-- The node doesn't run, so that the read has ended: client and roads show the world after it, and all connections are
-- as they were.
pub record NodeUnreached {R I O : Type 0} (r : roads.Ghosts R I O) (i : link_in.Ghosts I) (o : link_out.Ghosts O)
    (w : World) (net : Net) (v : World) (old new : ReadClient I O) (road : R) : Type 0 where
  pub stopped : w.running old.ask.node.0 ≡ false
  pub stands : ReadClientStands r i o v net new road
  pub ended : HasEnded old new
  pub last : v.next_conn ≡ w.next_conn
  pub others : OthersStay i o w net v net None

-- How it ends. Where no lower end is handed out the world is the same, whether a dial would be answered in it or not. A
-- fault has its cause.
abbrev pub OwnEnds : {R I O : Type 0} → roads.Ghosts R I O → link_in.Ghosts I → link_out.Ghosts O → World → Net →
    ReadClient I O → ReadClient I O → R → R → Result (Option (Conn I O)) ReaderFault → Type 0
OwnEnds r i o w net old new road road' (Ok (Some lower)) =
    NodeReached r i o w net (happens w (asking_node old.ask true)) old new lower road'
OwnEnds r i o w net old new road road' (Ok None) =
    (answered : Bool) → NodeUnreached r i o w net (happens w (asking_node old.ask answered)) old new road'
OwnEnds r i o w net old new road road' (Err why) = IsCaused r w.next_conn road road' why

-- What it makes of client and roads that show a world in which the reader hasn't begun, and the node has a port.
abbrev pub OwnShows : {R I O : Type 0} → roads.Ghosts R I O → link_in.Ghosts I → link_out.Ghosts O → ReadClient I O →
    ReadClient I O → R → R → Result (Option (Conn I O)) ReaderFault → Type 0
OwnShows r i o old new road road' result =
    (w : World) (net : Net) → ReadClientStands r i o w net old road → CanAsk w old.ask.reader old.ask.node
    → OwnEnds r i o w net old new road road' result

-- Nothing is done where the client has asked already.
abbrev pub OwnIsIdle : {R I O : Type 0} → ReadClient I O → ReadClient I O → R → R →
    Result (Option (Conn I O)) ReaderFault → Type 0
OwnIsIdle old new road road' result =
    is_new old.state ≡ false → (new ≡ old) × (road' ≡ road) × (result ≡ Ok None)

-- The roads know the lower end that is handed out.
abbrev pub LowerIsKnown : {I O : Type 0} → Option Plain → Option (Conn I O) → Type 0
LowerIsKnown plain lower = IfSome lower (λ e. IsKnown plain e.id.0)
