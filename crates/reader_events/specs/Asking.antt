-- A new reader asks a node, and the world after it.
use Rattle.std.specs.Prelude.{◌≡◌, ◌⊎◌, ℕ, ◌+◌, ◌≤◌, min, Bool, true, false, is_some, [], Option, None, IfSome, Result, Ok, Err}
use Rattle.std.specs.Global.{Vec}
use Rattle.hd_base.specs.Channels.{Plain}
use Rattle.hd_base.specs.Ends.{IsKnown}
use Rattle.hd_base.specs.Faults.{FaultsIncreased}
use Rattle.hd_base.specs.declared.ends.Conn.{Conn}
use Rattle.hd_base.specs.declared.links.LinkIn as link_in
use Rattle.hd_base.specs.declared.links.LinkOut as link_out
use Rattle.hd_base.specs.declared.numbers.NodeId.{NodeId}
use Rattle.hd_base.specs.declared.roads.Roads as roads
use Rattle.hd_base.specs.declared.roads.TheConstants.{FIRST_PORT}
use Rattle.link_pieces.specs.Roads.{ExchangesEnd}
use Rattle.world_settling.specs.MemberCore.TheConstants.{MAX_PORT}
use Rattle.op_headers.specs.declared.ops.ReadOp.{ReadOp}
use Rattle.read_core.specs.declared.reading.ReadFault.TheVariants as read_fault
use Rattle.road_traffic.specs.Showing.{Net}
use Rattle.visible_read.specs.Talking.{Begins, Steps}
use Rattle.visible_read.specs.declared.reading.Reading.{Reading}
use Rattle.visible_read.specs.declared.talking.ReadFault as reading_fault
use Rattle.visible_read.specs.declared.talking.ReadStep.{ReadStep}
use Rattle.visible_read.specs.declared.talking.ReadStep.TheVariants as step
use Rattle.visible_read.specs.declared.talking.Talk.{Talk}
use Rattle.world_settling.specs.World.Parts.{by_reader, no_reader, has_read}
use Rattle.world_settling.specs.World.Worlds.{World}
use Rattle.world_settling.specs.World.Events.{happens}
use Rattle.world_settling.specs.WorldNets.Nets.{IsEndOf}
use Rattle.client_events.specs.MemberEvents.Joining.{AcceptsDial}
use Rattle.client_events.specs.MemberEvents.Showing.{ShowsWorld}
use Rattle.client_events.specs.Showing.{OthersStay}
use Rattle.reader_events.specs.declared.asking.Asked.{Asked}
use Rattle.reader_events.specs.declared.asking.Asked.TheVariants as asked
use Rattle.reader_events.specs.declared.faults.ReaderFault.{ReaderFault}
use Rattle.reader_events.specs.declared.faults.ReaderFault.TheVariants as fault
use Rattle.reader_events.specs.Faults.{IsRoadFault, IsCaused}
use Rattle.reader_events.specs.Hearing.{IsGivenBack}
use Rattle.reader_events.specs.Making.{asks_event}
use Rattle.reader_events.specs.Showing.{ReaderStands}

-- STEPS OF THE EVENT

-- the port of a node, no higher than the last port
abbrev pub node_port : NodeId → ℕ
node_port node = min (FIRST_PORT + node.0) MAX_PORT

-- A read of which nothing was done, over this end, or memory ran out.
abbrev pub IsBegun : {I O : Type 0} → ReadOp → Conn I O → Result (Reading I O) ReaderFault → Type 0
IsBegun op end (Ok reading) = (reading.end ≡ end) × Begins op reading.talk
IsBegun op end (Err why) = why ≡ fault.Memory

-- the read goes on after this step
abbrev pub goes_on : ReadStep → Bool
goes_on (step.Ended read) = false
goes_on other = true

-- A step of a read with which it goes on, where nothing was done on the roads.
pub record StepsOn {R I O : Type 0} (i : link_in.Ghosts I) (o : link_out.Ghosts O) (old new : Reading I O)
    (road road' : R) : Type 0 where
  pub result : ReadStep
  pub steps : Steps i o old.talk new.talk old.end new.end result
  pub goes : goes_on result ≡ true
  pub same : road' ≡ road

-- A step that ended the read, whose end was then brought back.
pub record StepEnds {R I O : Type 0} (r : roads.Ghosts R I O) (i : link_in.Ghosts I) (o : link_out.Ghosts O)
    (old : Reading I O) (road road' : R) (why : ReaderFault) : Type 0 where
  pub talk : Talk
  pub end : Conn I O
  pub read : Result (Vec ℕ) reading_fault.ReadFault
  pub steps : Steps i o old.talk talk old.end end (step.Ended read)
  pub gives : IsGivenBack r i o end read road road' (Err why)

-- The request was sent; or the link failed, or memory ran out.
abbrev pub IsSent : {R I O : Type 0} → roads.Ghosts R I O → link_in.Ghosts I → link_out.Ghosts O → Reading I O → R →
    R → Result (Reading I O) ReaderFault → Type 0
IsSent r i o old road road' (Ok new) = StepsOn i o old new road road'
IsSent r i o old road road' (Err why) = (why ≡ fault.Memory) ⊎ StepEnds r i o old road road' why

-- The end of a read was exchanged, and took nothing, or the exchange failed.
pub record FlushesBy {R I O : Type 0} (r : roads.Ghosts R I O) (i : link_in.Ghosts I) (o : link_out.Ghosts O)
    (old new : Reading I O) (road road' : R) : Type 0 where
  pub talk : new.talk ≡ old.talk
  pub exchanged : ExchangesEnd r i o false old.end new.end road road' (Ok tt)

abbrev pub IsFlushed : {R I O : Type 0} → roads.Ghosts R I O → link_in.Ghosts I → link_out.Ghosts O → Reading I O → R →
    R → Result (Reading I O) ReaderFault → Type 0
IsFlushed r i o old road road' (Ok new) = FlushesBy r i o old new road road'
IsFlushed r i o old road road' (Err why) = IsRoadFault (r.faults road) (r.faults road') why

-- The dial was accepted, and this is its lower end.
pub record AcceptsLower {R I O : Type 0} (r : roads.Ghosts R I O) (i : link_in.Ghosts I) (o : link_out.Ghosts O)
    (port : ℕ) (reading : Reading I O) (road road' : R) (left : Asked I O) : Type 0 where
  pub lower : Conn I O
  pub is : left ≡ asked.Reading reading lower
  pub accepts : AcceptsDial r i o port road road' lower

-- Where it isn't, the roads' count rose, or no dial waits there.
abbrev pub Accepts : {R I O : Type 0} → roads.Ghosts R I O → link_in.Ghosts I → link_out.Ghosts O → ℕ → Reading I O →
    R → R → Result (Asked I O) ReaderFault → Type 0
Accepts r i o port reading road road' (Ok left) = AcceptsLower r i o port reading road road' left
Accepts r i o port reading road road' (Err fault.RoadsFailed) =
    IfSome (r.plain road) (λ p. p.waiting port ≡ []) ⊎ FaultsIncreased (r.faults road) (r.faults road')
Accepts r i o port reading road road' (Err fault.Memory) = Unit {0}
Accepts r i o port reading road road' (Err other) = ⊥

-- The request was sent on an end that was dialled.
pub record SendsOff {R I O : Type 0} (r : roads.Ghosts R I O) (i : link_in.Ghosts I) (o : link_out.Ghosts O)
    (op : ReadOp) (end : Conn I O) (sent : Reading I O) (road road' : R) : Type 0 where
  pub fresh : Reading I O
  pub begun : IsBegun op end (Ok fresh)
  pub sends : IsSent r i o fresh road road' (Ok sent)

-- The request was sent, and the end exchanged, and then the dial was accepted or wasn't.
pub record AsksBy {R I O : Type 0} (r : roads.Ghosts R I O) (i : link_in.Ghosts I) (o : link_out.Ghosts O) (port : ℕ)
    (op : ReadOp) (end : Conn I O) (road road' : R) (result : Result (Asked I O) ReaderFault) : Type 0 where
  pub sent : Reading I O
  pub flushed : Reading I O
  pub first : R
  pub second : R
  pub sends : SendsOff r i o op end sent road first
  pub flushes : FlushesBy r i o sent flushed first second
  pub accepts : Accepts r i o port flushed second road' result

-- It wasn't: the read that was begun could not send its request.
pub record FailsToAsk {R I O : Type 0} (r : roads.Ghosts R I O) (i : link_in.Ghosts I) (o : link_out.Ghosts O)
    (op : ReadOp) (end : Conn I O) (road road' : R) (why : ReaderFault) : Type 0 where
  pub fresh : Reading I O
  pub begun : IsBegun op end (Ok fresh)
  pub fails : IsSent r i o fresh road road' (Err why)

-- Why it wasn't.
pub data AsksNobody {R I O : Type 0} (r : roads.Ghosts R I O) (i : link_in.Ghosts I) (o : link_out.Ghosts O)
    (op : ReadOp) (end : Conn I O) (road road' : R) (why : ReaderFault) : Type 0 where
  no_memory : why ≡ fault.Memory → AsksNobody r i o op end road road' why
  unsent : FailsToAsk r i o op end road road' why → AsksNobody r i o op end road road' why
  unflushed : IsRoadFault (r.faults road) (r.faults road') why → AsksNobody r i o op end road road' why

-- How the asking on an end ends that was dialled.
abbrev pub IsAsked : {R I O : Type 0} → roads.Ghosts R I O → link_in.Ghosts I → link_out.Ghosts O → ℕ → ReadOp →
    Conn I O → R → R → Result (Asked I O) ReaderFault → Type 0
IsAsked r i o port op end road road' (Ok left) = AsksBy r i o port op end road road' (Ok left)
IsAsked r i o port op end road road' (Err why) =
    AsksNobody r i o op end road road' why ⊎ AsksBy r i o port op end road road' (Err why)

-- BEFORE THE EVENT

-- The reader with this number is new, and the node has a port.
pub record CanAsk (w : World) (line : ℕ) (node : NodeId) : Type 0 where
  pub new : w.readers line ≡ no_reader
  pub has_port : FIRST_PORT + node.0 ≤ MAX_PORT

-- AFTER THE EVENT

-- The read, its connection, the lower end of that and the roads show the world; the other ends stay.
pub record NodeAsked {R I O : Type 0} (r : roads.Ghosts R I O) (i : link_in.Ghosts I) (o : link_out.Ghosts O)
    (w : World) (net : Net) (v : World) (line : ℕ) (node : NodeId) (reading : Reading I O) (lower : Conn I O)
    (road : R) : Type 0 where
  pub made : Net
  pub stands : ReaderStands r i o v made line reading road
  pub conn_is : reading.end.id.0 ≡ w.next_conn
  pub end_is : IsEndOf i o v made w.next_conn true lower
  pub lower_same : v.lowers w.next_conn ≡ w.lowers w.next_conn
  pub upper : (v.dialled w.next_conn).upper ≡ by_reader line
  pub node_is : (v.dialled w.next_conn).to.node ≡ node.0
  pub last : v.next_conn ≡ w.next_conn + 1
  pub others : OthersStay i o w net v made None

-- The node doesn't run: the read has ended, and all connections are as they were.
pub record NodeSilent {R I O : Type 0} (r : roads.Ghosts R I O) (i : link_in.Ghosts I) (o : link_out.Ghosts O)
    (w : World) (net : Net) (v : World) (line : ℕ) (node : NodeId) (road : R) : Type 0 where
  pub stopped : w.running node.0 ≡ false
  pub roads_are : ShowsWorld r v net road
  pub reader : v.readers line ≡ has_read (Err read_fault.Ended)
  pub last : v.next_conn ≡ w.next_conn
  pub others : OthersStay i o w net v net None

-- Which world it is: that in which the dial was answered; where nobody listens it is the same whether one would be
-- answered or not.
abbrev pub AskedShows : {R I O : Type 0} → roads.Ghosts R I O → link_in.Ghosts I → link_out.Ghosts O → World → Net →
    ℕ → ReadOp → NodeId → Asked I O → R → Type 0
AskedShows r i o w net line op node (asked.Reading reading lower) road =
    NodeAsked r i o w net (happens w (asks_event line node op true)) line node reading lower road
AskedShows r i o w net line op node asked.Unanswered road =
    (answered : Bool) → NodeSilent r i o w net (happens w (asks_event line node op answered)) line node road

-- How it ends; a fault has its cause.
abbrev pub AskEnds : {R I O : Type 0} → roads.Ghosts R I O → link_in.Ghosts I → link_out.Ghosts O → World → Net → ℕ →
    ReadOp → NodeId → R → R → Result (Asked I O) ReaderFault → Type 0
AskEnds r i o w net line op node road road' (Ok left) = AskedShows r i o w net line op node left road'
AskEnds r i o w net line op node road road' (Err why) = IsCaused r w.next_conn road road' why

abbrev pub AskShows : {R I O : Type 0} → roads.Ghosts R I O → link_in.Ghosts I → link_out.Ghosts O → ReadOp → NodeId →
    R → R → Result (Asked I O) ReaderFault → Type 0
AskShows r i o op node road road' result =
    (w : World) (net : Net) (line : ℕ) → ShowsWorld r w net road → CanAsk w line node
    → AskEnds r i o w net line op node road road' result

-- A read that was begun may take a step.
abbrev pub AskedIsOpen : {I O : Type 0} → Asked I O → Type 0
AskedIsOpen (asked.Reading reading lower) = is_some reading.talk.core ≡ true
AskedIsOpen asked.Unanswered = Unit {0}

-- The roads know both ends of the new connection.
abbrev pub AskedIsKnown : {I O : Type 0} → Option Plain → Asked I O → Type 0
AskedIsKnown plain (asked.Reading reading lower) = IsKnown plain reading.end.id.0 × IsKnown plain lower.id.0
AskedIsKnown plain asked.Unanswered = Unit {0}
