-- By node and block, the events that the replica took in the present life of its node.
use Rattle.std.specs.Prelude.{ℕ, if◌then◌else◌, Bool, true, false, List, [], ◌∷◌, ◌++◌, option_map, Option, Some, None, Result, Ok, Err}
use Rattle.op_headers.specs.declared.ops.Op.TheVariants as op
use Rattle.replica_core.specs.declared.events.Event.{Event}
use Rattle.replica_core.specs.declared.events.Event.TheVariants as replica
use Rattle.replica_core.specs.Views.{rule_in}
use Rattle.replica_model.specs.declared.events.ReplicaEvent.{ReplicaEvent}
use Rattle.replica_model.specs.declared.events.ReplicaEvent.TheVariants as replica_event
use Rattle.replica_model.specs.Rows.{FullReplica, row, nothing}
use Rattle.member_core.specs.declared.turns.Turn.{Turn}
use Rattle.member_core.specs.Members.{down_turn, up_turn}
use Rattle.member_core.specs.Requests.{request_event}
use Rattle.member_core.specs.Steps.{oldest_at, ready_turn_at}
use Rattle.read_core.specs.Servings.{read_event, next_call}
use Rattle.recovery_core.specs.Members.{recovery_event}
use Rattle.world.specs.declared.events.Delivery.{Delivery}
use Rattle.world.specs.declared.events.Delivery.TheVariants as delivery
use Rattle.world.specs.declared.events.Event.{Event as WorldEvent}
use Rattle.world.specs.declared.events.Event.TheVariants as event
use Rattle.world.specs.Parts.{Message, request, Upper, by_member, FullMember, Lower, idle, writes, serves, recovers}
use Rattle.world.specs.Worlds.{World, put, put_at}
use Rattle.world.specs.Connections.{Next, message, next_down, next_up, down_taken, up_taken}
use Rattle.world.specs.Nodes.{node_of, replica_at, block_of, above_of, below_of}
use Rattle.world.specs.Events.{is_enabled, happens}

-- EVENTS OF REPLICAS

-- an event that a node's replica of a block takes
pub record TakenEvent : Type 0 where
  pub node : ℕ
  pub block : ℕ
  pub event : ReplicaEvent

-- what a book call is at the replica: where a call on files fails, that
abbrev pub failing : Bool → ReplicaEvent → ReplicaEvent
failing true e = replica_event.Other replica.FileFault
failing false e = e

-- at the node of a connection
abbrev pub taken_at : World → ℕ → ℕ → Bool → Option ReplicaEvent → Option TakenEvent
taken_at w c b fails o = option_map (λ e. record { node = node_of w c; block = b; event = failing fails e }) o

-- a book call that isn't refused before
abbrev pub call_of : {E : Type 0} → Result Event E → Option ReplicaEvent
call_of (Ok e) = Some (replica_event.Other e)
call_of (Err r) = None

abbrev pub call_in : Option Event → Option ReplicaEvent
call_in o = option_map (λ e. replica_event.Other e) o

-- the book call of a member's turn
abbrev pub turn_event : World → ℕ → FullMember → Turn → Bool → Option TakenEvent
turn_event w c m t fails = taken_at w c (block_of m.fields) fails t.call

-- that of the first message on a connection
abbrev pub first_event : World → ℕ → Message → Bool → Option TakenEvent
first_event w c (request (op.Write f)) fails =
    taken_at w c (block_of f) fails
    (call_of (request_event (record { 0 = c }) f (rule_in (replica_at w c (block_of f)).known)))
first_event w c (request (op.Read r)) fails = taken_at w c r.block.block.0 fails (call_of (read_event r))
first_event w c (request (op.Recovery r)) fails = taken_at w c r.block.block.0 fails (call_of (recovery_event r))
first_event w c m fails = None

-- that of a later message of a block recovery
abbrev pub recovery_next : World → ℕ → Next → Bool → Option TakenEvent
recovery_next w c (message (request (op.Recovery r))) fails =
    taken_at w c r.block.block.0 fails (call_of (recovery_event r))
recovery_next w c x fails = None

-- that of what a lower end takes
abbrev pub lower_event : Lower → World → ℕ → Next → Bool → Option TakenEvent
lower_event idle w c (message m) fails = first_event w c m fails
lower_event (writes m) w c x fails = turn_event w c m (down_turn m.state (above_of x)) fails
lower_event recovers w c x fails = recovery_next w c x fails
lower_event _ w c x fails = None

abbrev pub turn_event_in : World → ℕ → FullMember → Option Turn → Bool → Option TakenEvent
turn_event_in w c m None fails = None
turn_event_in w c m (Some t) fails = turn_event w c m t fails

-- that of what a lower end does without a message
abbrev pub acting_event : Lower → World → ℕ → Bool → Option TakenEvent
acting_event (writes m) w c fails =
    turn_event_in w c m (ready_turn_at m.state (replica_at w c (block_of m.fields))) fails
acting_event (serves b s) w c fails = taken_at w c b fails (call_in (next_call s))
acting_event _ w c fails = None

-- that of what a member takes from its mirror
abbrev pub mirror_event : Lower → World → ℕ → Next → Bool → Option TakenEvent
mirror_event (writes m) w d x fails =
    turn_event w d m (up_turn m.state (oldest_at (replica_at w d (block_of m.fields))) (below_of x)) fails
mirror_event _ w d x fails = None

abbrev pub upper_event : Upper → World → Next → Bool → Option TakenEvent
upper_event (by_member d) w x fails = mirror_event (w.lowers d) w d x fails
upper_event _ w x fails = None

-- EVENTS OF THE WORLD

abbrev pub down_event_as : World → ℕ → Bool → Option Next → Option TakenEvent
down_event_as w c fails None = None
down_event_as w c fails (Some x) = lower_event (w.lowers c) (down_taken w c x) c x fails

abbrev pub up_event_as : World → ℕ → Bool → Option Next → Option TakenEvent
up_event_as w c fails None = None
up_event_as w c fails (Some x) = upper_event (w.dialled c).upper (up_taken w c x) x fails

abbrev pub delivery_event : World → Delivery → Bool → Option TakenEvent
delivery_event w (delivery.Down c) fails = down_event_as w c.0 fails (next_down w c.0)
delivery_event w (delivery.Ready c) fails = acting_event (w.lowers c.0) w c.0 fails
delivery_event w (delivery.Up c) fails = up_event_as w c.0 fails (next_up w c.0)

-- the event of a replica that an enabled event of the world is, if it is one
abbrev pub event_of : World → WorldEvent → Option TakenEvent
event_of w (event.Down c answered) = delivery_event w (delivery.Down c) false
event_of w (event.Ready c) = delivery_event w (delivery.Ready c) false
event_of w (event.Up c) = delivery_event w (delivery.Up c) false
event_of w (event.Fault d) = delivery_event w d true
event_of w _ = None

-- HISTORIES

-- what a replica was when the life of its node began, and the events that it took since
pub record History : Type 0 where
  pub first : FullReplica
  pub events : List ReplicaEvent

abbrev pub Histories : Type 0
Histories = ℕ → ℕ → History

abbrev pub at_first : FullReplica → History
at_first r = record { first = r; events = [] }

-- in the beginning: all replicas are absent
abbrev pub no_events : Histories
no_events n b = at_first (nothing (record { 0 = b }))

-- with one event more
abbrev pub more_events : History → ReplicaEvent → History
more_events h e = record h { events = h.events ++ e ∷ [] }

abbrev pub with_event : Histories → Option TakenEvent → Histories
with_event h None = h
with_event h (Some x) = put_at h x.node x.block (more_events (h x.node x.block) x.event)

-- A restart begins the histories of its node anew.
abbrev pub history_with : Histories → World → WorldEvent → Histories
history_with h w (event.Restart n list) = put h n.0 (λ b. at_first ((happens w (event.Restart n list)).replicas n.0 b))
history_with h w e = with_event h (event_of w e)

-- with what an event brings, where it is enabled
abbrev pub history_by : Histories → World → WorldEvent → Histories
history_by h w e = if is_enabled w e then history_with h w e else h

-- the histories after events
abbrev pub history_in : Histories → World → List WorldEvent → Histories
history_in h w [] = h
history_in h w (e ∷ events) = history_in (history_by h w e) (happens w e) events

-- the replica after some events
abbrev pub replayed : FullReplica → List ReplicaEvent → FullReplica
replayed r [] = r
replayed r (e ∷ es) = replayed (row r e) es
