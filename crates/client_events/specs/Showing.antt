-- A writer, its connection, the office and the roads show a world.
use Rattle.std.specs.Prelude.{◌≡◌, ℕ, Bool, true, false, is_some, Option, Some, None, IfSome, Result, Ok, Err}
use Rattle.hd_base.specs.Channels.{Plain}
use Rattle.hd_base.specs.Ends.{IsKnown}
use Rattle.hd_base.specs.declared.ends.Conn.{Conn}
use Rattle.hd_base.specs.declared.links.LinkIn as link_in
use Rattle.hd_base.specs.declared.links.LinkOut as link_out
use Rattle.hd_base.specs.declared.roads.Roads as roads
use Rattle.pipe_recovery.specs.LinkMessages.Incomings.{IncomingState, nothing_received}
use Rattle.name_core.specs.Offices.{OfficeState}
use Rattle.pipe_recovery.specs.declared.links.Link.{Link}
use Rattle.pipe_recovery.specs.Dialling.{LinkIsKnown}
use Rattle.pipe_recovery.specs.Steps.{fits_accepted, fits_in, is_stamped}
use Rattle.pipe_recovery.specs.Hearing.{nothing_heard}
use Rattle.road_traffic.specs.Showing.{Net}
use Rattle.member_events.specs.World.Worlds.{World}
use Rattle.member_events.specs.WorldNets.Nets.{IsNetOf, IsEndOf, is_over}
use Rattle.member_events.specs.WorldNets.Ends.{IsElsewhere}
use Rattle.writer_core.specs.declared.phases.Phase.{Phase}
use Rattle.writer_core.specs.declared.phases.Phase.TheVariants as phase
use Rattle.writer_core.specs.declared.records.WriterRecord.{WriterRecord}
use Rattle.member_events.specs.Showing.{ShowsWorld}
use Rattle.client_events.specs.declared.faults.ClientFault.{ClientFault}
use Rattle.client_events.specs.declared.pipes.Pipe.{Pipe}
use Rattle.client_events.specs.declared.pipes.Pipe.TheVariants as pipe

-- CONNECTIONS

-- The pipeline stands on this connection. Nothing was received there that wasn't taken, as long as the end wasn't.
pub record StreamShows {I O : Type 0} (i : link_in.Ghosts I) (o : link_out.Ghosts O) (w : World) (net : Net)
    (conn : Option ℕ) (at_end : Conn I O) (incoming : IncomingState) : Type 0 where
  pub conn_is : conn ≡ Some at_end.id.0
  pub end_is : IsEndOf i o w net at_end.id.0 false at_end
  pub received : is_over w at_end.id.0 false ≡ false → incoming ≡ nothing_received

-- A setup holds the upper end of this connection, on which nothing stands that was looked at.
pub record LinkStands {I O : Type 0} (i : link_in.Ghosts I) (o : link_out.Ghosts O) (w : World) (net : Net)
    (conn : Option ℕ) (link : Link I O) : Type 0 where
  pub conn_is : conn ≡ Some link.end.id.0
  pub end_is : IsEndOf i o w net link.end.id.0 false link.end
  pub heard : link.heard ≡ nothing_heard

abbrev pub LinkShows : {I O : Type 0} → link_in.Ghosts I → link_out.Ghosts O → World → Net → Option ℕ →
    Option (Link I O) → Type 0
LinkShows i o w net conn None = conn ≡ None
LinkShows i o w net conn (Some link) = LinkStands i o w net conn link

-- the connection of a writer that has this one, or none
abbrev pub PipeShows : {I O : Type 0} → link_in.Ghosts I → link_out.Ghosts O → World → Net → Option ℕ → Pipe I O →
    Type 0
PipeShows i o w net conn pipe.Closed = conn ≡ None
PipeShows i o w net conn (pipe.SettingUp setup) = LinkShows i o w net conn setup.link
PipeShows i o w net conn (pipe.Streaming end incoming) = StreamShows i o w net conn end incoming

-- The roads know the end of the connection, if there is one.
abbrev pub PipeIsKnown : {I O : Type 0} → Option Plain → Pipe I O → Type 0
PipeIsKnown plain pipe.Closed = Unit {0}
PipeIsKnown plain (pipe.SettingUp setup) = LinkIsKnown plain setup.link
PipeIsKnown plain (pipe.Streaming end incoming) = IsKnown plain end.id.0

-- WHERE THE WRITER IS

-- the writer waits on the connection of a setup
abbrev pub awaits : Phase → Bool
awaits (phase.Requested s stamp) = true
awaits (phase.Accepted s stamp) = fits_accepted s true
awaits other = false

-- Where a setup has the connection a step of it may be done (Rebuild::fits); else the writer doesn't wait on one.
abbrev pub PipeFits : {I O : Type 0} → Phase → Pipe I O → Type 0
PipeFits p (pipe.SettingUp setup) = (fits_in p (is_some setup.link) ≡ true) × (is_stamped p ≡ false)
PipeFits p (pipe.Streaming end incoming) = awaits p ≡ false
PipeFits p pipe.Closed = awaits p ≡ false

-- An event leaves a connection that fits the writer, where it fitted before.
abbrev pub FitsAfter : {I O : Type 0} → WriterRecord → WriterRecord → Pipe I O → Result (Pipe I O) ClientFault → Type 0
FitsAfter known known' connection (Ok left) = PipeFits known.phase connection → PipeFits known'.phase left
FitsAfter known known' connection (Err why) = Unit {0}

-- WRITERS

-- A block's writer, for which no answer of the office waits, its connection, the office, and roads that show that world.
pub record ClientStands {R I O : Type 0} (r : roads.Ghosts R I O) (i : link_in.Ghosts I) (o : link_out.Ghosts O)
    (w : World) (net : Net) (b : ℕ) (office : OfficeState) (known : WriterRecord) (connection : Pipe I O)
    (road : R) : Type 0 where
  pub roads_are : ShowsWorld r w net road
  pub writer : known ≡ (w.writers b).known
  pub told : (w.writers b).told ≡ None
  pub pipe_is : PipeShows i o w net (w.writers b).conn connection
  pub office_is : office ≡ w.office

-- WHAT AN EVENT LEAVES

-- Each end of the world before that isn't the upper one of this connection is an end of the world after.
abbrev pub OthersStay : {I O : Type 0} → link_in.Ghosts I → link_out.Ghosts O → World → Net → World → Net →
    Option ℕ → Type 0
OthersStay {I} {O} i o w net v made conn = (d : ℕ) (lower : Bool) (e : Conn I O) →
    IfSome conn (λ c. IsElsewhere c false d lower) → IsEndOf i o w net d lower e
    → IsEndOf i o v made d lower e

-- The writer after the event, its connection, the office and the roads show the world after it; the other ends stay.
pub record ClientLeft {R I O : Type 0} (r : roads.Ghosts R I O) (i : link_in.Ghosts I) (o : link_out.Ghosts O)
    (w : World) (net : Net) (v : World) (b : ℕ) (office : OfficeState) (known : WriterRecord) (left : Pipe I O)
    (road : R) : Type 0 where
  pub made : Net
  pub stands : ClientStands r i o v made b office known left road
  pub others : OthersStay i o w net v made (w.writers b).conn

-- The roads and ends that show the first world show the second one: nothing was sent, taken or shut.
pub record StayShown (w v : World) : Type 0 where
  pub nets : (net : Net) → IsNetOf w net → IsNetOf v net
  pub over : (c : ℕ) (lower : Bool) → is_over v c lower ≡ is_over w c lower
