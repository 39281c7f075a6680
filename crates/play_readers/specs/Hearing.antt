-- What a reading client hears on its connection, and the world after it.
use Rattle.std.specs.Prelude.{◌≡◌, true, Some, None, Result, Ok, Err}
use Rattle.hd_base.specs.declared.links.LinkIn as link_in
use Rattle.hd_base.specs.declared.links.LinkOut as link_out
use Rattle.hd_base.specs.declared.numbers.ConnId.{ConnId}
use Rattle.hd_base.specs.declared.roads.Roads as roads
use Rattle.road_traffic.specs.Showing.{Net}
use Rattle.reader_events.specs.VisibleRead.Reading.{Reading}
use Rattle.play_model.specs.World.Event.TheVariants as event
use Rattle.play_model.specs.World.Enabled.{can_up}
use Rattle.play_model.specs.World.Events.{happens}
use Rattle.play_model.specs.World.Parts.{by_reader}
use Rattle.play_model.specs.World.Worlds.{World}
use Rattle.reader_events.specs.WorldTexts.Texts.{Written}
use Rattle.reader_events.specs.ClientEvents.Showing.{OthersStay}
use Rattle.reader_events.specs.declared.faults.ReaderFault.{ReaderFault}
use Rattle.reader_events.specs.declared.hearing.Heard.{Heard}
use Rattle.reader_events.specs.declared.hearing.Heard.TheVariants as heard
use Rattle.reader_events.specs.Faults.{IsCaused}
use Rattle.reader_events.specs.Hearing as hearing
use Rattle.reader_events.specs.Orders.{ReadersTakeInOrder}
use Rattle.play_readers.specs.declared.clients.ReadClient.{ReadClient}
use Rattle.play_readers.specs.declared.clients.ReadState.{ReadState}
use Rattle.play_readers.specs.declared.clients.ReadState.TheVariants as state
use Rattle.play_readers.specs.Clients.{conn_of, ReadClientStands}

-- STEPS OF THE EVENT

-- how far a client is that has heard this, unless it has failed
abbrev pub state_left : {I O : Type 0} → Result (Heard I O) ReaderFault → Result (ReadState I O) ReaderFault
state_left (Ok (heard.Reading reading)) = Ok (state.Reads reading)
state_left (Ok (heard.Read read)) = Ok (state.HasRead read)
state_left (Err why) = Err why

-- The read took what stands next.
pub record HearsBy {R I O : Type 0} (r : roads.Ghosts R I O) (i : link_in.Ghosts I) (o : link_out.Ghosts O)
    (reading : Reading I O) (road road' : R) (result : Result (ReadState I O) ReaderFault) : Type 0 where
  pub left : Result (Heard I O) ReaderFault
  pub shows : hearing.HearShows r i o reading road road' left
  pub is : result ≡ state_left left

-- It did, where the client reads; else nothing is done.
abbrev pub StateHears : {R I O : Type 0} → roads.Ghosts R I O → link_in.Ghosts I → link_out.Ghosts O →
    ReadState I O → R → R → Result (ReadState I O) ReaderFault → Type 0
StateHears r i o (state.Reads reading) road road' result = HearsBy r i o reading road road' result
StateHears r i o other road road' result = (result ≡ Ok other) × (road' ≡ road)

-- BEFORE THE EVENT

-- What holds of each world before the event, whatever happened before: readers take in order (readers_take_in_order),
-- and each message is spelled as it is written (messages_are_written).
pub record HearIsLawful (w : World) : Type 0 where
  pub in_order : ReadersTakeInOrder w
  pub written : Written w

-- AFTER THE EVENT

-- The client and the roads show the world after it; the other ends stay.
pub record HearLeft {R I O : Type 0} (r : roads.Ghosts R I O) (i : link_in.Ghosts I) (o : link_out.Ghosts O)
    (w : World) (net : Net) (v : World) (conn : ConnId) (old new : ReadClient I O) (road : R) : Type 0 where
  pub made : Net
  pub stands : ReadClientStands r i o v made new road
  pub ask : new.ask ≡ old.ask
  pub others : OthersStay i o w net v made (Some conn.0)

-- How it ends; a fault has its cause.
abbrev pub HearEnds : {R I O : Type 0} → roads.Ghosts R I O → link_in.Ghosts I → link_out.Ghosts O → World → Net →
    ConnId → ReadClient I O → ReadClient I O → R → R → Result (Unit {0}) ReaderFault → Type 0
HearEnds r i o w net conn old new road road' (Ok u) =
    HearLeft r i o w net (happens w (event.Up conn)) conn old new road'
HearEnds r i o w net conn old new road road' (Err why) = IsCaused r conn.0 road road' why

-- What it makes of client and roads that show a world in which the reader may take what stands next on this connection,
-- which it dialled.
abbrev pub HearShows : {R I O : Type 0} → roads.Ghosts R I O → link_in.Ghosts I → link_out.Ghosts O →
    ReadClient I O → ReadClient I O → R → R → Result (Unit {0}) ReaderFault → Type 0
HearShows r i o old new road road' result =
    (w : World) (net : Net) (conn : ConnId) → ReadClientStands r i o w net old road → HearIsLawful w →
    can_up w conn.0 ≡ true → (w.dialled conn.0).upper ≡ by_reader old.ask.reader
    → HearEnds r i o w net conn old new road road' result

-- Nothing is done where the client has no connection.
abbrev pub HearIsIdle : {R I O : Type 0} → ReadClient I O → ReadClient I O → R → R → Result (Unit {0}) ReaderFault →
    Type 0
HearIsIdle old new road road' result =
    conn_of old.state ≡ None → (new ≡ old) × (road' ≡ road) × (result ≡ Ok tt)
