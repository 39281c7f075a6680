-- What the events of a lower end that takes the requests of a recovery make of the world.
use Rattle.std.proofs.Common.{◌≡◌, ℕ, Bool, true, false, Option, None, Result, Ok, Err, refl, ap, ◌∙◌}
use Rattle.std.specs.Prelude.{if◌then◌else◌}
use Rattle.hd_base.specs.declared.numbers.ConnId.{ConnId}
use Rattle.op_headers.specs.declared.ops.Op.TheVariants as op
use Rattle.op_headers.specs.declared.ops.RecoveryOp.{RecoveryOp}
use Rattle.block_recovery.specs.RecoveryCore.RecoveryReply.{RecoveryReply}
use Rattle.block_recovery.specs.RecoveryCore.Members.{recovery_event}
use Rattle.replica_core.specs.declared.events.Event.{Event}
use Rattle.world_orders.specs.World.Parts.{request, packet, ack, response, read_status, recovery_answer, Lower, idle, writes, serves, recovers, ended_below}
use Rattle.world_orders.specs.World.Worlds.{World, Change}
use Rattle.world_orders.specs.World.Connections.{Next, message, the_end, down_taken}
use Rattle.world_orders.specs.World.Nodes.{closing, unless_failing, lower_down, next_recovery, recovery_request, failing_recovery}
use Rattle.world_orders.specs.World.Events.{outcome, changed, down_as, down_event}
use Rattle.member_events.specs.WorldNets.Drawn.{ComesDown}
use Rattle.recovery_events.specs.Drawn.{recovery_next, TakesRequests, IsNoRequest, RequestMakes, OtherMakes, RecoveryMakes}

takes : (w : World) (c : ℕ) (answered fails : Bool) (x : Next) → ComesDown w c x → down_event w c answered fails ≡ changed (down_taken w c x) (lower_down (w.lowers c) (down_taken w c x) c x answered fails)
takes w c answered fails x k = λ j. if k.served j then down_as w c answered fails (k.next j) else None

takes_as : (w : World) (c : ℕ) (answered fails : Bool) (x : Next) (l : Lower) → ComesDown w c x → w.lowers c ≡ l → down_event w c answered fails ≡ changed (down_taken w c x) (lower_down l (down_taken w c x) c x answered fails)
takes_as w c answered fails x l k e = takes w c answered fails x k ∙ ap (λ (m : Lower). changed (down_taken w c x) (lower_down m (down_taken w c x) c x answered fails)) e

-- A REQUEST

asked : (l : Lower) → TakesRequests l → (w : World) (c : ℕ) (r : RecoveryOp) (answered fails : Bool) → lower_down l w c (recovery_next r) answered fails ≡ recovery_request w c r fails
asked idle h w c r answered fails = refl
asked recovers h w c r answered fails = refl
asked (writes m) h w c r answered fails = absurd h
asked (serves b s) h w c r answered fails = absurd h
asked ended_below h w c r answered fails = absurd h

request_down : (w : World) (c : ℕ) (answered fails : Bool) (r : RecoveryOp) → ComesDown w c (recovery_next r) → TakesRequests (w.lowers c)
    → down_event w c answered fails ≡ changed (down_taken w c (recovery_next r)) (recovery_request (down_taken w c (recovery_next r)) c r fails)
request_down w c answered fails r k h =
    takes w c answered fails (recovery_next r) k
    ∙ ap (λ (q : Option Change). changed (down_taken w c (recovery_next r)) q) (asked (w.lowers c) h (down_taken w c (recovery_next r)) c r answered fails)

request_fails : (w : World) (c : ℕ) (r : RecoveryOp) (q : Result Event RecoveryReply) → ComesDown w c (recovery_next r) → TakesRequests (w.lowers c) → recovery_event r ≡ q
    → down_event w c false true ≡ changed (down_taken w c (recovery_next r)) (failing_recovery (down_taken w c (recovery_next r)) c r q)
request_fails w c r q k h is =
    request_down w c false true r k h
    ∙ ap (λ (y : Result Event RecoveryReply). changed (down_taken w c (recovery_next r)) (failing_recovery (down_taken w c (recovery_next r)) c r y)) is

pub request_makes : (w : World) (conn : ConnId) (answered : Bool) (r : RecoveryOp) → ComesDown w conn.0 (recovery_next r) → TakesRequests (w.lowers conn.0) → RequestMakes w conn answered r
unfolding outcome
request_makes w conn answered r k h = record {
  done = request_down w conn.0 answered false r k h;
  faulted = λ e is. request_fails w conn.0 r (Ok e) k h is;
  unbooked = λ said is. request_fails w conn.0 r (Err said) k h is;
}

-- ANYTHING ELSE

other_next : (w : World) (c : ℕ) (x : Next) (fails : Bool) → IsNoRequest x → next_recovery w c x fails ≡ unless_failing fails (closing w c)
other_next w c (message (request (op.Recovery r))) fails none = absurd none
other_next w c (message (request (op.Write fields))) fails none = refl
other_next w c (message (request (op.Read r))) fails none = refl
other_next w c (message (request (op.Transfer r))) fails none = refl
other_next w c (message (request (op.Checksum r))) fails none = refl
other_next w c (message (packet p)) fails none = refl
other_next w c (message (ack a)) fails none = refl
other_next w c (message (response r)) fails none = refl
other_next w c (message (read_status s)) fails none = refl
other_next w c (message (recovery_answer a)) fails none = refl
other_next w c the_end fails none = refl

other_down : (w : World) (c : ℕ) (answered fails : Bool) (x : Next) → ComesDown w c x → w.lowers c ≡ recovers → IsNoRequest x
    → down_event w c answered fails ≡ changed (down_taken w c x) (unless_failing fails (closing (down_taken w c x) c))
other_down w c answered fails x k e none =
    takes_as w c answered fails x recovers k e ∙ ap (λ (q : Option Change). changed (down_taken w c x) q) (other_next (down_taken w c x) c x fails none)

pub other_makes : (w : World) (conn : ConnId) (answered : Bool) (x : Next) → ComesDown w conn.0 x → w.lowers conn.0 ≡ recovers → IsNoRequest x → OtherMakes w conn answered x
unfolding outcome
other_makes w conn answered x k e none = record {
  done = other_down w conn.0 answered false x k e none;
  unbooked = other_down w conn.0 false true x k e none;
}

pub recovery_makes : (w : World) (conn : ConnId) (answered : Bool) → RecoveryMakes w conn answered
recovery_makes w conn answered = record {
  request = λ r k h. request_makes w conn answered r k h;
  other = λ x k e none. other_makes w conn answered x k e none;
}
