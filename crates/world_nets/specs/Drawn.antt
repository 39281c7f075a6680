-- What the drawn events of members and writers make of the world.
use Rattle.std.specs.Prelude.{◌≡◌, ℕ, nat_lt, Bool, true, Option, Some, None}
use Rattle.hd_base.specs.declared.numbers.ConnId.{ConnId}
use Rattle.hd_base.specs.declared.numbers.BlockId.{BlockId}
use Rattle.world.specs.OpHeaders.Op.TheVariants as op
use Rattle.world.specs.OpHeaders.Values.{WriteFields}
use Rattle.world.specs.MemberCore.Turn.{Turn}
use Rattle.world.specs.MemberCore.Members.{hears}
use Rattle.world.specs.MemberCore.Steps.{step, down_step, up_step, request_step, ready_turn_at}
use Rattle.world.specs.NameCore.OfficeCall.{OfficeCall}
use Rattle.world.specs.WriterCore.Action.TheVariants as action
use Rattle.world.specs.WriterCore.Transitions.{own_step}
use Rattle.world.specs.declared.events.Caller.TheVariants as caller
use Rattle.world.specs.declared.events.Event.TheVariants as event
use Rattle.world.specs.declared.events.OwnStep.TheVariants as own
use Rattle.world.specs.declared.events.TakenCommand.{TakenCommand}
use Rattle.world.specs.Parts.{request, by_writer, by_member, FullMember, idle, writes, Break}
use Rattle.world.specs.Worlds.{World, Change, apply}
use Rattle.world.specs.Connections.{Next, message, the_end, next_down, next_up, down_taken, up_taken, is_served, is_alive, is_conn}
use Rattle.world.specs.Nodes.{closing, member_change, setup_change, replica_at, node_of, block_of, pending_at, takes_next, above_of, below_of, is_asked}
use Rattle.world.specs.Clients.{own_writer, writer_change, writer_hears}
use Rattle.world.specs.Primaries.{asks_writer}
use Rattle.world.specs.Events.{outcome}

-- CHANGES

-- the break of the replica of a connection's node
abbrev pub break_at : World → ℕ → WriteFields → Option Break
break_at w c fields = w.breaks (node_of w c) (block_of fields)

-- a member takes this from above, and from its mirror
abbrev pub goes_down : World → ℕ → FullMember → Next → Change
goes_down w c m x =
    member_change w c m x (down_step m.state (replica_at w c (block_of m.fields)) (above_of x)) (break_at w c m.fields)

abbrev pub goes_up : World → ℕ → FullMember → Next → Change
goes_up w c m x =
    member_change w c m x (up_step m.state (replica_at w c (block_of m.fields)) (below_of x)) (break_at w c m.fields)

-- it has this turn without a message
abbrev pub acts : World → ℕ → FullMember → Turn → Change
acts w c m t =
    member_change w c m the_end (step m.state (replica_at w c (block_of m.fields)) t) (break_at w c m.fields)

-- a node takes a request to write, and the dial of the mirror is answered, if one is made, or isn't
abbrev pub sets_up : World → ℕ → WriteFields → Bool → Change
sets_up w c fields answered =
    setup_change w c fields (request_step (record { 0 = c }) fields (is_asked w c fields answered)
    (replica_at w c (block_of fields))) (break_at w c fields)

-- a writer takes this
abbrev pub hears_as : World → ℕ → Next → Change
hears_as w b x = writer_change w b (writer_hears (w.writers b).known x)

-- LOWER ENDS

-- The lower end of a connection is served, and this stands next for it.
pub record ComesDown (w : World) (c : ℕ) (x : Next) : Type 0 where
  pub served : is_served w c ≡ true
  pub next : next_down w c ≡ Some x

-- This is no request.
abbrev pub IsNoRequest : Next → Type 0
IsNoRequest (message (request r)) = ⊥
IsNoRequest x = Unit {0}

-- What the event makes of the world in which the lower end takes this: a member its step, a request a setup; what is
-- none closes the connection.
pub record DownMakes (w : World) (conn : ConnId) (answered : Bool) (x : Next) : Type 0 where
  pub member : (m : FullMember) → w.lowers conn.0 ≡ writes m → takes_next m.state (pending_at w conn.0 m) x ≡ true →
      outcome w (event.Down conn answered) ≡
      Some (apply (down_taken w conn.0 x) (goes_down (down_taken w conn.0 x) conn.0 m x))
  pub request : (fields : WriteFields) → w.lowers conn.0 ≡ idle → x ≡ message (request (op.Write fields)) →
      outcome w (event.Down conn answered) ≡
      Some (apply (down_taken w conn.0 x) (sets_up (down_taken w conn.0 x) conn.0 fields answered))
  pub other : w.lowers conn.0 ≡ idle → IsNoRequest x →
      outcome w (event.Down conn answered) ≡
      Some (apply (down_taken w conn.0 x) (closing (down_taken w conn.0 x) conn.0))

abbrev pub DownsMake : Type 0
DownsMake = (w : World) (conn : ConnId) (answered : Bool) (x : Next) → ComesDown w conn.0 x
    → DownMakes w conn answered x

-- A member that has a turn without a message takes it.
abbrev pub ReadiesMake : Type 0
ReadiesMake = (w : World) (conn : ConnId) (m : FullMember) (t : Turn) → is_served w conn.0 ≡ true
    → w.lowers conn.0 ≡ writes m → ready_turn_at m.state (replica_at w conn.0 (block_of m.fields)) ≡ Some t
    → outcome w (event.Ready conn) ≡ Some (apply w (acts w conn.0 m t))

-- UPPER ENDS

-- The connection was dialled, and this stands next for its upper end.
pub record ComesUp (w : World) (c : ℕ) (x : Next) : Type 0 where
  pub known : nat_lt c w.next_conn ≡ true
  pub next : next_up w c ≡ Some x

-- The member that dialled hears its mirror.
pub record HearsMirror (w : World) (c d : ℕ) (m : FullMember) : Type 0 where
  pub upper : (w.dialled c).upper ≡ by_member d
  pub lower : w.lowers d ≡ writes m
  pub alive : is_alive w (w.dialled d).to ≡ true
  pub hears : hears m.state ≡ true

-- The writer that dialled still has the connection, and no answer of the office waits for it.
pub record HearsPipe (w : World) (c b : ℕ) : Type 0 where
  pub upper : (w.dialled c).upper ≡ by_writer b
  pub conn : is_conn (w.writers b).conn c ≡ true
  pub told : (w.writers b).told ≡ None

-- What the event makes of the world in which the upper end takes this.
pub record UpMakes (w : World) (conn : ConnId) (x : Next) : Type 0 where
  pub member : (d : ℕ) (m : FullMember) → HearsMirror w conn.0 d m →
      outcome w (event.Up conn) ≡ Some (apply (up_taken w conn.0 x) (goes_up (up_taken w conn.0 x) d m x))
  pub writer : (b : ℕ) → HearsPipe w conn.0 b →
      outcome w (event.Up conn) ≡ Some (apply (up_taken w conn.0 x) (hears_as (up_taken w conn.0 x) b x))

abbrev pub UpsMake : Type 0
UpsMake = (w : World) (conn : ConnId) (x : Next) → ComesUp w conn.0 x → UpMakes w conn x

-- OWN STEPS

-- A writer's own step is the change that it leads to.
abbrev pub OwnsMake : Type 0
OwnsMake = (w : World) (b : BlockId) (takes : Option TakenCommand) (answered : Bool) (k : Change)
    → own_writer w b.0 takes answered ≡ Some k → outcome w (event.Own (own.Writer b takes answered)) ≡ Some (apply w k)

-- A writer asks the office in its own step, where no answer waits for it.
abbrev pub AsksMake : Type 0
AsksMake = (w : World) (b : BlockId) (c : OfficeCall) → (w.writers b.0).told ≡ None
    → (own_step (w.writers b.0).known).action ≡ action.Ask c
    → outcome w (event.Office (caller.Writer b)) ≡ Some (apply w (asks_writer w b.0 c))
