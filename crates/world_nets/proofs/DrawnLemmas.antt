-- What the drawn events make of the world.
use Rattle.std.proofs.Common.{◌≡◌, ℕ, Bool, true, false, Option, Some, None, refl, ap, ◌∙◌}
use Rattle.std.specs.Prelude.{◌&&◌, is_none, if◌then◌else◌}
use Rattle.hd_base.specs.declared.numbers.BlockId.{BlockId}
use Rattle.hd_base.specs.declared.numbers.ConnId.{ConnId}
use Rattle.world.specs.OpHeaders.Op.TheVariants as op
use Rattle.world.specs.OpHeaders.Values.{WriteFields}
use Rattle.world.specs.MemberCore.Turn.{Turn}
use Rattle.world.specs.MemberCore.Members.{down_turn, up_turn}
use Rattle.world.specs.MemberCore.Steps.{oldest_at, ready_turn_at}
use Rattle.world.specs.NameCore.OfficeCall.{OfficeCall}
use Rattle.world.specs.WriterCore.Action.TheVariants as action
use Rattle.world.specs.WriterCore.Transitions.{own_step}
use Rattle.world.specs.declared.events.Caller.TheVariants as caller
use Rattle.world.specs.declared.events.Event.TheVariants as event
use Rattle.world.specs.declared.events.OwnStep.TheVariants as own
use Rattle.world.specs.declared.events.TakenCommand.{TakenCommand}
use Rattle.world.specs.Parts.{request, packet, ack, response, read_status, recovery_answer, FullMember, Lower, idle, writes}
use Rattle.world.specs.Worlds.{World, Change, apply}
use Rattle.world.specs.Connections.{Next, message, the_end, down_taken, up_taken, is_served}
use Rattle.world.specs.Nodes.{closing, lower_down, lower_ready, ready_change, turn_change, mirror_up, replica_at, block_of, pending_at, takes_next, above_of, below_of}
use Rattle.world.specs.Clients.{own_writer}
use Rattle.world.specs.Primaries.{asks_writer, writer_asks}
use Rattle.world.specs.Events.{outcome, changed, down_as, down_event, up_as, up_event, upper_up}
use Rattle.world_nets.specs.Drawn.{goes_down, goes_up, acts, sets_up, hears_as, ComesDown, IsNoRequest, DownMakes, ComesUp, HearsMirror, HearsPipe, UpMakes}

-- LOWER ENDS

down-by : (w : World) (c : ℕ) (answered : Bool) (x : Next) → ComesDown w c x → down_event w c answered false ≡ changed (down_taken w c x) (lower_down (w.lowers c) (down_taken w c x) c x answered false)
down-by w c answered x k = λ j. if k.served j then down_as w c answered false (k.next j) else None

down-as : (w : World) (c : ℕ) (answered : Bool) (x : Next) (l : Lower) → ComesDown w c x → w.lowers c ≡ l → down_event w c answered false ≡ changed (down_taken w c x) (lower_down l (down_taken w c x) c x answered false)
down-as w c answered x l k e = down-by w c answered x k ∙ ap (λ (m : Lower). changed (down_taken w c x) (lower_down m (down_taken w c x) c x answered false)) e

member-down : (w : World) (conn : ConnId) (answered : Bool) (x : Next) (m : FullMember) → ComesDown w conn.0 x → w.lowers conn.0 ≡ writes m → takes_next m.state (pending_at w conn.0 m) x ≡ true
    → outcome w (event.Down conn answered) ≡ Some (apply (down_taken w conn.0 x) (goes_down (down_taken w conn.0 x) conn.0 m x))
unfolding outcome down_taken
member-down w conn answered x m k e takes =
    down-as w conn.0 answered x (writes m) k e
    ∙ (λ j. changed (down_taken w conn.0 x) (if takes j then turn_change (down_taken w conn.0 x) conn.0 m x (down_turn m.state (above_of x)) false else None))

request-down : (w : World) (conn : ConnId) (answered : Bool) (x : Next) (fields : WriteFields) → ComesDown w conn.0 x → w.lowers conn.0 ≡ idle → x ≡ message (request (op.Write fields))
    → outcome w (event.Down conn answered) ≡ Some (apply (down_taken w conn.0 x) (sets_up (down_taken w conn.0 x) conn.0 fields answered))
unfolding outcome
request-down w conn answered x fields k e is =
    down-as w conn.0 answered x idle k e
    ∙ ap (λ (y : Next). changed (down_taken w conn.0 x) (lower_down idle (down_taken w conn.0 x) conn.0 y answered false)) is

idle-down : (w : World) (c : ℕ) (answered : Bool) (x : Next) → IsNoRequest x → lower_down idle w c x answered false ≡ Some (closing w c)
idle-down w c answered (message (request r)) none = absurd none
idle-down w c answered (message (packet p)) none = refl
idle-down w c answered (message (ack a)) none = refl
idle-down w c answered (message (response r)) none = refl
idle-down w c answered (message (read_status s)) none = refl
idle-down w c answered (message (recovery_answer a)) none = refl
idle-down w c answered the_end none = refl

other-down : (w : World) (conn : ConnId) (answered : Bool) (x : Next) → ComesDown w conn.0 x → w.lowers conn.0 ≡ idle → IsNoRequest x
    → outcome w (event.Down conn answered) ≡ Some (apply (down_taken w conn.0 x) (closing (down_taken w conn.0 x) conn.0))
unfolding outcome
other-down w conn answered x k e none =
    down-as w conn.0 answered x idle k e ∙ ap (λ (c : Option Change). changed (down_taken w conn.0 x) c) (idle-down (down_taken w conn.0 x) conn.0 answered x none)

pub down-makes : (w : World) (conn : ConnId) (answered : Bool) (x : Next) → ComesDown w conn.0 x → DownMakes w conn answered x
down-makes w conn answered x k = record {
  member = λ m e takes. member-down w conn answered x m k e takes;
  request = λ fields e is. request-down w conn answered x fields k e is;
  other = λ e none. other-down w conn answered x k e none;
}

pub ready-makes : (w : World) (conn : ConnId) (m : FullMember) (t : Turn) → is_served w conn.0 ≡ true → w.lowers conn.0 ≡ writes m → ready_turn_at m.state (replica_at w conn.0 (block_of m.fields)) ≡ Some t
    → outcome w (event.Ready conn) ≡ Some (apply w (acts w conn.0 m t))
unfolding outcome
ready-makes w conn m t served e turn =
    (λ j. if served j then changed w (lower_ready (e j) w conn.0 false) else None)
    ∙ ap (λ (o : Option Turn). changed w (ready_change w conn.0 m o false)) turn

-- UPPER ENDS

up-by : (w : World) (c : ℕ) (x : Next) → ComesUp w c x → up_event w c false ≡ changed (up_taken w c x) (upper_up (w.dialled c).upper (up_taken w c x) c x false)
up-by w c x k = λ j. if k.known j then up_as w c false (k.next j) else None

member-up : (w : World) (conn : ConnId) (x : Next) (d : ℕ) (m : FullMember) → ComesUp w conn.0 x → HearsMirror w conn.0 d m
    → outcome w (event.Up conn) ≡ Some (apply (up_taken w conn.0 x) (goes_up (up_taken w conn.0 x) d m x))
unfolding outcome up_taken
member-up w conn x d m k h =
    up-by w conn.0 x k
    ∙ ((λ j. changed (up_taken w conn.0 x) (upper_up (h.upper j) (up_taken w conn.0 x) conn.0 x false))
    ∙ ((λ j. changed (up_taken w conn.0 x) (mirror_up (h.lower j) (up_taken w conn.0 x) d x false))
    ∙ (λ j. changed (up_taken w conn.0 x) (if h.alive j then (if h.hears j then turn_change (up_taken w conn.0 x) d m x (up_turn m.state (oldest_at (replica_at (up_taken w conn.0 x) d (block_of m.fields))) (below_of x)) false else None) else None))))

writer-up : (w : World) (conn : ConnId) (x : Next) (b : ℕ) → ComesUp w conn.0 x → HearsPipe w conn.0 b
    → outcome w (event.Up conn) ≡ Some (apply (up_taken w conn.0 x) (hears_as (up_taken w conn.0 x) b x))
unfolding outcome up_taken
writer-up w conn x b k h =
    up-by w conn.0 x k
    ∙ ((λ j. changed (up_taken w conn.0 x) (upper_up (h.upper j) (up_taken w conn.0 x) conn.0 x false))
    ∙ (λ j. changed (up_taken w conn.0 x) (if h.conn j && is_none (h.told j) then Some (hears_as (up_taken w conn.0 x) b x) else None)))

pub up-makes : (w : World) (conn : ConnId) (x : Next) → ComesUp w conn.0 x → UpMakes w conn x
up-makes w conn x k = record {
  member = λ d m h. member-up w conn x d m k h;
  writer = λ b h. writer-up w conn x b k h;
}

-- OWN STEPS

pub own-makes : (w : World) (b : BlockId) (takes : Option TakenCommand) (answered : Bool) (k : Change) → own_writer w b.0 takes answered ≡ Some k → outcome w (event.Own (own.Writer b takes answered)) ≡ Some (apply w k)
unfolding outcome
own-makes w b takes answered k e = ap (λ (c : Option Change). changed w c) e

pub asks-make : (w : World) (b : BlockId) (c : OfficeCall) → (w.writers b.0).told ≡ None → (own_step (w.writers b.0).known).action ≡ action.Ask c
    → outcome w (event.Office (caller.Writer b)) ≡ Some (apply w (asks_writer w b.0 c))
unfolding outcome
asks-make w b c told asks = λ j. changed w (if is_none (told j) then writer_asks (asks j) w b.0 else None)
