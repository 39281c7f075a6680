-- What a reader takes from its connection, and the world after it.
use Rattle.std.specs.Prelude.{◌≡◌, ◌⊎◌, ℕ, true, is_some, List, Option, Some, Result, Ok, Err}
use Rattle.std.specs.Global.{Vec}
use Rattle.hd_base.specs.Channels.{Plain}
use Rattle.hd_base.specs.Ends.{IsKnown}
use Rattle.hd_base.specs.declared.ends.Conn.{Conn}
use Rattle.hd_base.specs.declared.links.LinkIn as link_in
use Rattle.hd_base.specs.declared.links.LinkOut as link_out
use Rattle.hd_base.specs.declared.numbers.ConnId.{ConnId}
use Rattle.hd_base.specs.declared.roads.Roads as roads
use Rattle.link_pieces.specs.Roads.{ExchangesEnd, BringsEnd}
use Rattle.packet_codec.specs.declared.faults.PacketFault.TheVariants as packet_fault
use Rattle.frame_feed.specs.declared.faults.FeedFault.{FeedFault}
use Rattle.frame_feed.specs.declared.faults.FeedFault.TheVariants as feed
use Rattle.read_core.specs.declared.reading.ReadFault.{ReadFault}
use Rattle.read_core.specs.declared.reading.ReadFault.TheVariants as read_fault
use Rattle.read_core.specs.declared.reading.ReadPhase.{ReadPhase}
use Rattle.read_core.specs.declared.reading.ReadPhase.TheVariants as phase
use Rattle.read_core.specs.Readings.{ReadingState}
use Rattle.road_traffic.specs.Showing.{Net}
use Rattle.visible_read.specs.declared.reading.Reading.{Reading}
use Rattle.visible_read.specs.declared.talking.ReadFault as reading_fault
use Rattle.visible_read.specs.declared.talking.ReadFault.TheVariants as ended
use Rattle.visible_read.specs.declared.talking.ReadStep.{ReadStep}
use Rattle.visible_read.specs.declared.talking.ReadStep.TheVariants as step
use Rattle.world_settling.specs.World.Event.TheVariants as event
use Rattle.world_settling.specs.World.Parts.{packet, response, by_reader, Reader, reads, has_read}
use Rattle.world_settling.specs.World.Worlds.{World}
use Rattle.world_settling.specs.World.Connections.{Next, message, the_end}
use Rattle.world_settling.specs.World.Events.{happens}
use Rattle.world_settling.specs.WorldNets.Drawn.{ComesUp}
use Rattle.world_settling.specs.WorldTexts.Texts.{SpellsText, Written}
use Rattle.client_events.specs.MemberEvents.Showing.{ShowsWorld}
use Rattle.client_events.specs.Showing.{OthersStay}
use Rattle.reader_events.specs.declared.faults.ReaderFault.{ReaderFault}
use Rattle.reader_events.specs.declared.faults.ReaderFault.TheVariants as fault
use Rattle.reader_events.specs.declared.hearing.Heard.{Heard}
use Rattle.reader_events.specs.declared.hearing.Heard.TheVariants as heard
use Rattle.reader_events.specs.Orders.{ReadersTakeInOrder}
use Rattle.reader_events.specs.Faults.{IsRoadFault, IsCaused}
use Rattle.reader_events.specs.Showing.{ReadingShows, ReaderStands}

-- WHAT WAS READ

-- the bytes that were read, or why the read failed
abbrev pub bytes_read : Result (Vec ℕ) ReadFault → Result (List ℕ) ReadFault
bytes_read (Ok bytes) = Ok bytes.items
bytes_read (Err why) = Err why

-- what the world has for a message that is malformed
abbrev pub malformed_as : FeedFault → ReadFault
malformed_as (feed.Packet (packet_fault.SumCount rest)) = read_fault.SumCount
malformed_as other = read_fault.Unreadable

-- why a read failed by what the node sent or didn't send, as the world has it, or why the event isn't done
abbrev pub node_fault : reading_fault.ReadFault → Result ReadFault ReaderFault
node_fault (ended.Refused text) = Ok (read_fault.Refused text.items)
node_fault (ended.BadSum chunk) = Ok (read_fault.BadSum chunk)
node_fault (ended.Malformed why) = Ok (malformed_as why)
node_fault (ended.OutOfPlace want got) = Ok (read_fault.OutOfPlace want got)
node_fault (ended.Rule kind chunk) = Ok (read_fault.Rule kind chunk)
node_fault ended.Ended = Ok read_fault.Ended
node_fault ended.LinkFailed = Err fault.LinkFailed
node_fault ended.Memory = Err fault.Memory

-- the same of a read that failed
abbrev pub failed_as : Result ReadFault ReaderFault → Result (Result (Vec ℕ) ReadFault) ReaderFault
failed_as (Ok why) = Ok (Err why)
failed_as (Err why) = Err why

-- what was read, as the world has it, or why the event isn't done
abbrev pub read_of : Result (Vec ℕ) reading_fault.ReadFault → Result (Result (Vec ℕ) ReadFault) ReaderFault
read_of (Ok bytes) = Ok (Ok bytes)
read_of (Err why) = failed_as (node_fault why)

-- STEPS OF THE EVENT

-- The end of a reading was exchanged, and took what stands next there, or the exchange failed.
pub record TakesBy {R I O : Type 0} (r : roads.Ghosts R I O) (i : link_in.Ghosts I) (o : link_out.Ghosts O)
    (old new : Reading I O) (road road' : R) : Type 0 where
  pub talk : new.talk ≡ old.talk
  pub exchanged : ExchangesEnd r i o true old.end new.end road road' (Ok tt)

abbrev pub TakesStanding : {R I O : Type 0} → roads.Ghosts R I O → link_in.Ghosts I → link_out.Ghosts O →
    Reading I O → R → R → Result (Reading I O) ReaderFault → Type 0
TakesStanding r i o old road road' (Ok new) = TakesBy r i o old new road road'
TakesStanding r i o old road road' (Err why) = IsRoadFault (r.faults road) (r.faults road') why

-- The end of a reading that has ended so was brought back.
pub record GivesBack {R I O : Type 0} (r : roads.Ghosts R I O) (i : link_in.Ghosts I) (o : link_out.Ghosts O)
    (end : Conn I O) (read : Result (Vec ℕ) reading_fault.ReadFault) (road road' : R)
    (result : Result (Result (Vec ℕ) ReadFault) ReaderFault) : Type 0 where
  pub brings : BringsEnd r i o end road road' (Ok tt)
  pub is : result ≡ read_of read

-- It was, or memory ran out.
abbrev pub IsGivenBack : {R I O : Type 0} → roads.Ghosts R I O → link_in.Ghosts I → link_out.Ghosts O → Conn I O →
    Result (Vec ℕ) reading_fault.ReadFault → R → R → Result (Result (Vec ℕ) ReadFault) ReaderFault → Type 0
IsGivenBack r i o end read road road' result =
    GivesBack r i o end read road road' result ⊎ (result ≡ Err fault.Memory)

-- what a reader has that has read this, unless it has failed
abbrev pub heard_read : {I O : Type 0} → Result (Result (Vec ℕ) ReadFault) ReaderFault → Result (Heard I O) ReaderFault
heard_read (Ok read) = Ok (heard.Read read)
heard_read (Err why) = Err why

-- A reading that has ended was brought back.
pub record IsEnded {R I O : Type 0} (r : roads.Ghosts R I O) (i : link_in.Ghosts I) (o : link_out.Ghosts O)
    (end : Conn I O) (read : Result (Vec ℕ) reading_fault.ReadFault) (road road' : R)
    (result : Result (Heard I O) ReaderFault) : Type 0 where
  pub given : Result (Result (Vec ℕ) ReadFault) ReaderFault
  pub gives : IsGivenBack r i o end read road road' given
  pub is : result ≡ heard_read given

-- What a reader has after a step.
abbrev pub IsHeard : {R I O : Type 0} → roads.Ghosts R I O → link_in.Ghosts I → link_out.Ghosts O → Reading I O →
    ReadStep → R → R → Result (Heard I O) ReaderFault → Type 0
IsHeard r i o reading (step.Ended read) road road' result = IsEnded r i o reading.end read road road' result
IsHeard r i o reading other road road' result = (result ≡ Ok (heard.Reading reading)) × (road' ≡ road)

-- BEFORE THE EVENT

-- What comes to a read in this phase: the answer where that is awaited, and else a packet, spelled as it is written; or
-- the end.
abbrev pub IsNextIn : ReadPhase → Next → Type 0
IsNextIn phase.Asked (message (response a)) = SpellsText (response a)
IsNextIn (phase.Receiving rule at seqno) (message (packet p)) = SpellsText (packet p)
IsNextIn p (message other) = ⊥
IsNextIn p the_end = Unit {0}

-- The same for this reader.
abbrev pub IsNextOf : Reader → Next → Type 0
IsNextOf (reads c s) x = IsNextIn s.phase x
IsNextOf other x = ⊥

-- The reader takes what stands next on this connection. That it dialled it, that this comes next
-- (readers_take_in_order), and that it is spelled as it is written (messages_are_written), holds after all events.
pub record CanHear (w : World) (conn : ConnId) (line : ℕ) (x : Next) : Type 0 where
  pub comes : ComesUp w conn.0 x
  pub upper : (w.dialled conn.0).upper ≡ by_reader line
  pub fits : IsNextOf (w.readers line) x

-- A reader that reads can hear what stands next on its connection, in a world as it is after all events.
abbrev pub ReadersCanHear : Type 0
ReadersCanHear = (w : World) (conn : ConnId) (line : ℕ) (s : ReadingState) (x : Next) → ReadersTakeInOrder w →
    Written w → ComesUp w conn.0 x
    → w.readers line ≡ reads conn.0 s → CanHear w conn line x

-- AFTER THE EVENT

-- The read goes on, or has this result.
abbrev pub HeardShows : {I O : Type 0} → link_in.Ghosts I → link_out.Ghosts O → World → Net → ℕ → Heard I O → Type 0
HeardShows i o v made line (heard.Reading reading) = ReadingShows i o v made line reading
HeardShows i o v made line (heard.Read result) = v.readers line ≡ has_read (bytes_read result)

-- The reader and the roads show the world after the event; the other ends stay.
pub record ReaderLeft {R I O : Type 0} (r : roads.Ghosts R I O) (i : link_in.Ghosts I) (o : link_out.Ghosts O)
    (w : World) (net : Net) (v : World) (line conn : ℕ) (left : Heard I O) (road : R) : Type 0 where
  pub made : Net
  pub roads_are : ShowsWorld r v made road
  pub left_is : HeardShows i o v made line left
  pub others : OthersStay i o w net v made (Some conn)

-- How it ends; a fault has its cause.
abbrev pub HearEnds : {R I O : Type 0} → roads.Ghosts R I O → link_in.Ghosts I → link_out.Ghosts O → World → Net →
    World → ℕ → ℕ → R → R → Result (Heard I O) ReaderFault → Type 0
HearEnds r i o w net v line conn road road' (Ok left) = ReaderLeft r i o w net v line conn left road'
HearEnds r i o w net v line conn road road' (Err why) = IsCaused r conn road road' why

abbrev pub HearShows : {R I O : Type 0} → roads.Ghosts R I O → link_in.Ghosts I → link_out.Ghosts O → Reading I O →
    R → R → Result (Heard I O) ReaderFault → Type 0
HearShows r i o reading road road' result =
    (w : World) (net : Net) (line : ℕ) (x : Next) → ReaderStands r i o w net line reading road →
    CanHear w reading.end.id line x
    → HearEnds r i o w net (happens w (event.Up reading.end.id)) line reading.end.id.0 road road' result

-- A read that goes on may take a step.
abbrev pub HeardIsOpen : {I O : Type 0} → Heard I O → Type 0
HeardIsOpen (heard.Reading reading) = is_some reading.talk.core ≡ true
HeardIsOpen (heard.Read result) = Unit {0}

-- The roads know the end of a read that goes on.
abbrev pub HeardIsKnown : {I O : Type 0} → Option Plain → Heard I O → Type 0
HeardIsKnown plain (heard.Reading reading) = IsKnown plain reading.end.id.0
HeardIsKnown plain (heard.Read result) = Unit {0}
