-- The reading client of a line shows a world.
use Rattle.std.specs.Prelude.{◌≡◌, ◌==◌, ℕ, Bool, true, false, is_some, Option, Some, None}
use Rattle.hd_base.specs.Channels.{Plain}
use Rattle.hd_base.specs.Ends.{IsKnown}
use Rattle.hd_base.specs.declared.links.LinkIn as link_in
use Rattle.hd_base.specs.declared.links.LinkOut as link_out
use Rattle.hd_base.specs.declared.numbers.ConnId.{ConnId}
use Rattle.hd_base.specs.declared.roads.Roads as roads
use Rattle.road_traffic.specs.Showing.{Net}
use Rattle.reader_events.specs.VisibleRead.Reading.{Reading}
use Rattle.play_model.specs.World.Parts.{no_reader, has_read}
use Rattle.play_model.specs.World.Worlds.{World}
use Rattle.reader_events.specs.MemberEvents.Showing.{ShowsWorld}
use Rattle.reader_events.specs.Hearing.{bytes_read}
use Rattle.reader_events.specs.Showing.{ReadingShows}
use Rattle.play_readers.specs.declared.clients.ReadClient.{ReadClient}
use Rattle.play_readers.specs.declared.clients.ReadState.{ReadState}
use Rattle.play_readers.specs.declared.clients.ReadState.TheVariants as state

-- it hasn't asked yet
abbrev pub is_new : {I O : Type 0} → ReadState I O → Bool
is_new state.Asks = true
is_new other = false

-- the connection over which it reads
abbrev pub conn_of : {I O : Type 0} → ReadState I O → Option ConnId
conn_of (state.Reads reading) = Some reading.end.id
conn_of other = None

-- it reads over this connection
abbrev pub reads_over : {I O : Type 0} → ReadState I O → ℕ → Bool
reads_over (state.Reads reading) c = reading.end.id.0 == c
reads_over other c = false

-- A read that goes on may take a step, and the roads know its end.
pub record IsReady {I O : Type 0} (plain : Option Plain) (reading : Reading I O) : Type 0 where
  pub open_is : is_some reading.talk.core ≡ true
  pub known : IsKnown plain reading.end.id.0

-- So it is where the client reads.
abbrev pub ReadIsReady : {I O : Type 0} → Option Plain → ReadState I O → Type 0
ReadIsReady plain (state.Reads reading) = IsReady plain reading
ReadIsReady plain other = Unit {0}

-- The reader of this number hasn't begun, reads over the client's connection as far as the client has come, or has read
-- just what the client has.
abbrev pub StateShows : {I O : Type 0} → link_in.Ghosts I → link_out.Ghosts O → World → Net → ℕ → ReadState I O →
    Type 0
StateShows i o w net line state.Asks = w.readers line ≡ no_reader
StateShows i o w net line (state.Reads reading) = ReadingShows i o w net line reading
StateShows i o w net line (state.HasRead read) = w.readers line ≡ has_read (bytes_read read)

-- The client of a line shows its reader.
abbrev pub ReadClientShows : {I O : Type 0} → link_in.Ghosts I → link_out.Ghosts O → World → Net → ReadClient I O →
    Type 0
ReadClientShows i o w net c = StateShows i o w net c.ask.reader c.state

-- The client and the roads show the world.
pub record ReadClientStands {R I O : Type 0} (r : roads.Ghosts R I O) (i : link_in.Ghosts I) (o : link_out.Ghosts O)
    (w : World) (net : Net) (c : ReadClient I O) (road : R) : Type 0 where
  pub roads_are : ShowsWorld r w net road
  pub client_is : ReadClientShows i o w net c
