-- What the events of readers leave of all others, and what the events of others leave of the readers.
use Rattle.std.specs.Prelude.{◌≡◌, ◌≢◌, ◌≤◌, ◌<◌, ◌+◌, ℕ, Bool, true, false}
use Rattle.hd_base.specs.declared.numbers.BlockId.{BlockId}
use Rattle.hd_base.specs.declared.numbers.ConnId.{ConnId}
use Rattle.hd_base.specs.declared.numbers.NodeId.{NodeId}
use Rattle.op_headers.specs.declared.ops.ReadOp.{ReadOp}
use Rattle.play_model.specs.World.Delivery.TheVariants as delivery
use Rattle.play_model.specs.World.Event.TheVariants as event
use Rattle.play_model.specs.World.Connections.{is_served}
use Rattle.play_model.specs.World.Events.{happens, run}
use Rattle.play_model.specs.World.Parts.{by_writer, by_member, by_reader}
use Rattle.play_model.specs.World.Worlds.{World}
use Rattle.world_standings.specs.WorldNets.Ends.{IsElsewhere}
use Rattle.world_standings.specs.WorldNets.Nets.{is_over}
use Rattle.play_model.specs.declared.dues.Due.TheVariants as due
use Rattle.play_model.specs.Dues.{Queues, due_events}
use Rattle.reader_events.specs.Making.{asks_event}

-- WHAT THE EVENTS OF A READER LEAVE OF THE OTHERS

-- All readers but this one are as they were, and so are the writers, their answers, the primaries and the office.
pub record KeepsOthers (w v : World) (line : ℕ) : Type 0 where
  pub readers : (other : ℕ) → other ≢ line → v.readers other ≡ w.readers other
  pub writers : (b : ℕ) → v.writers b ≡ w.writers b
  pub said : (b : ℕ) → v.said b ≡ w.said b
  pub primaries : (p : ℕ) → v.primaries p ≡ w.primaries p
  pub office : v.office ≡ w.office

-- No more was taken from any connection.
abbrev pub TakesNothing : World → World → Type 0
TakesNothing w v = (c : ℕ) (lower : Bool) → is_over v c lower ≡ is_over w c lower

-- No end took more but the upper one of this connection.
abbrev pub TakesThere : World → World → ℕ → Type 0
TakesThere w v conn =
    (c : ℕ) (lower : Bool) → IsElsewhere conn false c lower → is_over v c lower ≡ is_over w c lower

abbrev pub AskingKeepsOthers : Type 0
AskingKeepsOthers = (w : World) (line : ℕ) (node : NodeId) (read : ReadOp) (answered : Bool) →
    KeepsOthers w (happens w (asks_event line node read answered)) line ×
    TakesNothing w (happens w (asks_event line node read answered))

abbrev pub HearingKeepsOthers : Type 0
HearingKeepsOthers = (w : World) (conn : ConnId) (line : ℕ) → (w.dialled conn.0).upper ≡ by_reader line
    → KeepsOthers w (happens w (event.Up conn)) line × TakesThere w (happens w (event.Up conn)) conn.0

-- WHAT THEY LEAVE OF THE NODES

-- What nodes have stays: their lives, whether they run, their replicas, and the lower ends of connections. There may be
-- more connections.
pub record KeepsNodes (w v : World) : Type 0 where
  pub nodes : v.nodes ≡ w.nodes
  pub grows : w.next_conn ≤ v.next_conn
  pub dialled : (d : ℕ) → d < w.next_conn → v.dialled d ≡ w.dialled d
  pub running : (n : ℕ) → v.running n ≡ w.running n
  pub lives : (n : ℕ) → v.lives n ≡ w.lives n
  pub lowers : (d : ℕ) → v.lowers d ≡ w.lowers d
  pub replicas : (n b : ℕ) → v.replicas n b ≡ w.replicas n b

-- A reader dialled this connection, and its lower end is served.
pub record IsAsked (v : World) (line c : ℕ) : Type 0 where
  pub upper : (v.dialled c).upper ≡ by_reader line
  pub served : is_served v c ≡ true

-- What nodes have stays, and the reader has dialled at most once.
pub record AskKeepsNodes (w v : World) (line : ℕ) : Type 0 where
  pub keeps : KeepsNodes w v
  pub once : v.next_conn ≤ w.next_conn + 1
  pub dials : w.next_conn < v.next_conn → IsAsked v line w.next_conn

abbrev pub AskingKeepsNodes : Type 0
AskingKeepsNodes = (w : World) (line : ℕ) (node : NodeId) (read : ReadOp) (answered : Bool) →
    AskKeepsNodes w (happens w (asks_event line node read answered)) line

-- What nodes have stays, and nothing is dialled.
pub record HearKeepsNodes (w v : World) : Type 0 where
  pub keeps : KeepsNodes w v
  pub conns : v.next_conn ≡ w.next_conn

abbrev pub HearingKeepsNodes : Type 0
HearingKeepsNodes = (w : World) (conn : ConnId) (line : ℕ) → (w.dialled conn.0).upper ≡ by_reader line
    → HearKeepsNodes w (happens w (event.Up conn))

-- WHAT THE EVENTS OF OTHERS LEAVE OF THE READERS

-- The readers are as they were, and so is which ends they took.
pub record KeepsReaders (w v : World) : Type 0 where
  pub readers : (line : ℕ) → v.readers line ≡ w.readers line
  pub over : (line c : ℕ) → (w.dialled c).upper ≡ by_reader line → is_over v c false ≡ is_over w c false

-- A writer's own step, with the office's answer where it asks.
abbrev pub OwnStepsKeepReaders : Type 0
OwnStepsKeepReaders = (w : World) (queues : Queues) (block : BlockId) →
    KeepsReaders w (run w (due_events w queues (due.Own block)))

-- What it hears.
abbrev pub HearingKeepsReaders : Type 0
HearingKeepsReaders = (w : World) (conn : ConnId) (b : ℕ) → (w.dialled conn.0).upper ≡ by_writer b
    → KeepsReaders w (happens w (event.Up conn))

-- The lower end of a connection takes what stands next, or acts without a message; a member hears its mirror.
abbrev pub DownKeepsReaders : Type 0
DownKeepsReaders = (w : World) (conn : ConnId) (answered : Bool) →
    KeepsReaders w (happens w (event.Down conn answered))

-- It takes it, and a call on files fails in it.
abbrev pub FaultKeepsReaders : Type 0
FaultKeepsReaders = (w : World) (conn : ConnId) →
    KeepsReaders w (happens w (event.Fault (delivery.Down conn)))

abbrev pub ReadyKeepsReaders : Type 0
ReadyKeepsReaders = (w : World) (conn : ConnId) → KeepsReaders w (happens w (event.Ready conn))

abbrev pub MirrorKeepsReaders : Type 0
MirrorKeepsReaders = (w : World) (conn : ConnId) (d : ℕ) → (w.dialled conn.0).upper ≡ by_member d
    → KeepsReaders w (happens w (event.Up conn))
