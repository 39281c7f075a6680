-- What the events of primaries leave of all others, and what the events of others leave of the primaries.
use Rattle.std.specs.Prelude.{◌≡◌, ◌≢◌, ◌≤◌, ◌<◌, ℕ, Bool, true, false, List}
use Rattle.hd_base.specs.declared.numbers.BlockId.{BlockId}
use Rattle.hd_base.specs.declared.numbers.ConnId.{ConnId}
use Rattle.hd_base.specs.declared.numbers.NodeId.{NodeId}
use Rattle.op_headers.specs.declared.ops.ReadOp.{ReadOp}
use Rattle.primary_events.specs.World.Delivery.TheVariants as delivery
use Rattle.primary_events.specs.World.Event.TheVariants as event
use Rattle.primary_events.specs.World.Connections.{is_served}
use Rattle.primary_events.specs.World.Events.{happens, run}
use Rattle.primary_events.specs.World.Parts.{by_writer, by_member, by_reader, by_primary}
use Rattle.primary_events.specs.World.Worlds.{World}
use Rattle.play_readers.specs.WorldNets.Nets.{is_over}
use Rattle.play_readers.specs.PlayModel.Due.TheVariants as due
use Rattle.play_readers.specs.PlayModel.Recovery.{Recovery}
use Rattle.play_readers.specs.PlayModel.Dues.{Queues, due_events}
use Rattle.play_readers.specs.ReaderEvents.Making.{asks_event}
use Rattle.play_readers.specs.Frames.{TakesNothing, TakesThere, KeepsNodes, HearKeepsNodes}
use Rattle.play_primaries.specs.Owning.{own_events}

-- WHAT THEY LEAVE OF THE OTHERS

-- All primaries but this one are as they were, and so are the readers, the writers and their answers.
pub record KeepsOthers (w v : World) (number : ℕ) : Type 0 where
  pub primaries : (other : ℕ) → other ≢ number → v.primaries other ≡ w.primaries other
  pub readers : (line : ℕ) → v.readers line ≡ w.readers line
  pub writers : (b : ℕ) → v.writers b ≡ w.writers b
  pub said : (b : ℕ) → v.said b ≡ w.said b

-- Its own step, with the office's answer where it asks, takes from no connection.
abbrev pub OwnStepsKeepOthers : Type 0
OwnStepsKeepOthers = (w : World) (r : Recovery) (answers : List Bool) →
    KeepsOthers w (run w (own_events w r answers)) r.primary × TakesNothing w (run w (own_events w r answers))

-- What it hears leaves the office too.
pub record HearKeepsOthers (w v : World) (number conn : ℕ) : Type 0 where
  pub others : KeepsOthers w v number
  pub office : v.office ≡ w.office
  pub takes : TakesThere w v conn

abbrev pub HearingKeepsOthers : Type 0
HearingKeepsOthers = (w : World) (conn : ConnId) (number place : ℕ) →
    (w.dialled conn.0).upper ≡ by_primary number place
    → HearKeepsOthers w (happens w (event.Up conn)) number conn.0

-- WHAT THEY LEAVE OF THE NODES

-- The primary dialled this connection, for the member at some place, and its lower end is served.
pub record IsDialled (v : World) (number c : ℕ) : Type 0 where
  pub place : ℕ
  pub upper : (v.dialled c).upper ≡ by_primary number place
  pub served : is_served v c ≡ true

-- What nodes have stays, and each new connection is such a one.
pub record OwnKeepsNodes (w v : World) (number : ℕ) : Type 0 where
  pub keeps : KeepsNodes w v
  pub dials : (c : ℕ) → w.next_conn ≤ c → c < v.next_conn → IsDialled v number c

abbrev pub OwnStepsKeepNodes : Type 0
OwnStepsKeepNodes = (w : World) (r : Recovery) (answers : List Bool) →
    OwnKeepsNodes w (run w (own_events w r answers)) r.primary

abbrev pub HearingKeepsNodes : Type 0
HearingKeepsNodes = (w : World) (conn : ConnId) (number place : ℕ) →
    (w.dialled conn.0).upper ≡ by_primary number place
    → HearKeepsNodes w (happens w (event.Up conn))

-- WHAT THE EVENTS OF OTHERS LEAVE OF THE PRIMARIES

-- The primaries are as they were, and so is which ends they took.
pub record KeepsPrimaries (w v : World) : Type 0 where
  pub primaries : (number : ℕ) → v.primaries number ≡ w.primaries number
  pub over : (number place c : ℕ) → (w.dialled c).upper ≡ by_primary number place →
      is_over v c false ≡ is_over w c false

-- A writer's own step, with the office's answer where it asks.
abbrev pub WritingKeepsPrimaries : Type 0
WritingKeepsPrimaries = (w : World) (queues : Queues) (block : BlockId) →
    KeepsPrimaries w (run w (due_events w queues (due.Own block)))

-- What it hears.
abbrev pub AcksKeepPrimaries : Type 0
AcksKeepPrimaries = (w : World) (conn : ConnId) (b : ℕ) → (w.dialled conn.0).upper ≡ by_writer b
    → KeepsPrimaries w (happens w (event.Up conn))

-- The lower end of a connection takes what stands next, or acts without a message; a member hears its mirror.
abbrev pub DownKeepsPrimaries : Type 0
DownKeepsPrimaries = (w : World) (conn : ConnId) (answered : Bool) →
    KeepsPrimaries w (happens w (event.Down conn answered))

-- It takes it, and a call on files fails in it.
abbrev pub FaultKeepsPrimaries : Type 0
FaultKeepsPrimaries = (w : World) (conn : ConnId) →
    KeepsPrimaries w (happens w (event.Fault (delivery.Down conn)))

abbrev pub ReadyKeepsPrimaries : Type 0
ReadyKeepsPrimaries = (w : World) (conn : ConnId) → KeepsPrimaries w (happens w (event.Ready conn))

abbrev pub MirrorKeepsPrimaries : Type 0
MirrorKeepsPrimaries = (w : World) (conn : ConnId) (d : ℕ) → (w.dialled conn.0).upper ≡ by_member d
    → KeepsPrimaries w (happens w (event.Up conn))

-- A reader's own step, and what it hears.
abbrev pub AskingKeepsPrimaries : Type 0
AskingKeepsPrimaries = (w : World) (line : ℕ) (node : NodeId) (read : ReadOp) (answered : Bool) →
    KeepsPrimaries w (happens w (asks_event line node read answered))

abbrev pub PiecesKeepPrimaries : Type 0
PiecesKeepPrimaries = (w : World) (conn : ConnId) (line : ℕ) → (w.dialled conn.0).upper ≡ by_reader line
    → KeepsPrimaries w (happens w (event.Up conn))
