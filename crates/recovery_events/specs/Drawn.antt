-- What the events of a lower end that takes the requests of a recovery make of the world.
use Rattle.std.specs.Prelude.{◌≡◌, ℕ, Bool, Some, None, Ok, Err}
use Rattle.hd_base.specs.declared.numbers.ConnId.{ConnId}
use Rattle.op_headers.specs.declared.ops.Op.TheVariants as op
use Rattle.op_headers.specs.declared.ops.RecoveryOp.{RecoveryOp}
use Rattle.block_recovery.specs.RecoveryCore.RecoveryReply.{RecoveryReply}
use Rattle.block_recovery.specs.RecoveryCore.Members.{recovery_event, serve, serve_faulted}
use Rattle.replica_core.specs.declared.events.Event.{Event}
use Rattle.block_recovery.specs.ReplicaModel.ReplicaEvent.TheVariants as replica_event
use Rattle.world_orders.specs.World.Delivery.TheVariants as delivery
use Rattle.world_orders.specs.World.Event.TheVariants as event
use Rattle.world_orders.specs.World.Parts.{request, Lower, idle, recovers}
use Rattle.world_orders.specs.World.Worlds.{World, Change, apply}
use Rattle.world_orders.specs.World.Connections.{Next, message, down_taken}
use Rattle.world_orders.specs.World.Nodes.{closing, recovery_change, replica_at, node_of, broke_at}
use Rattle.world_orders.specs.World.Events.{outcome}
use Rattle.member_events.specs.WorldNets.Drawn.{ComesDown}

-- CHANGES

-- what stood next where a request of a recovery was taken
abbrev pub recovery_next : RecoveryOp → Next
recovery_next r = message (request (op.Recovery r))

-- the block that a request names
abbrev pub asked_block : RecoveryOp → ℕ
asked_block r = r.block.block.0

-- a node answers a request
abbrev pub answers : World → ℕ → RecoveryOp → Change
answers w c r =
    recovery_change w c r (serve (replica_at w c (asked_block r)) r) (w.breaks (node_of w c) (asked_block r))

-- it answers one in whose event a call on the replica's files failed
abbrev pub answers_fault : World → ℕ → RecoveryOp → Event → Change
answers_fault w c r e =
    recovery_change w c r (serve_faulted (replica_at w c (asked_block r)))
    (broke_at w c (asked_block r) (replica_event.Other e))

-- THE EVENTS

-- A lower end takes requests of a recovery: it has taken nothing yet, or answers a primary.
abbrev pub TakesRequests : Lower → Type 0
TakesRequests idle = Unit {0}
TakesRequests recovers = Unit {0}
TakesRequests other = ⊥

-- This is no request of a recovery.
abbrev pub IsNoRequest : Next → Type 0
IsNoRequest (message (request (op.Recovery r))) = ⊥
IsNoRequest other = Unit {0}

-- A request that stands next is answered; where its event's call on the replica's files fails, with that. Where nothing
-- is booked no call fails.
pub record RequestMakes (w : World) (conn : ConnId) (answered : Bool) (r : RecoveryOp) : Type 0 where
  pub done : outcome w (event.Down conn answered) ≡
      Some (apply (down_taken w conn.0 (recovery_next r)) (answers (down_taken w conn.0 (recovery_next r)) conn.0 r))
  pub faulted : (e : Event) → recovery_event r ≡ Ok e →
      outcome w (event.Fault (delivery.Down conn)) ≡
      Some (apply (down_taken w conn.0 (recovery_next r))
      (answers_fault (down_taken w conn.0 (recovery_next r)) conn.0 r e))
  pub unbooked : (said : RecoveryReply) → recovery_event r ≡ Err said →
      outcome w (event.Fault (delivery.Down conn)) ≡ None

-- Where an end that answers a primary takes anything else, the connection ends, and no call on files fails.
pub record OtherMakes (w : World) (conn : ConnId) (answered : Bool) (x : Next) : Type 0 where
  pub done : outcome w (event.Down conn answered) ≡
      Some (apply (down_taken w conn.0 x) (closing (down_taken w conn.0 x) conn.0))
  pub unbooked : outcome w (event.Fault (delivery.Down conn)) ≡ None

-- What the events make of the world in which the lower end takes what stands next.
pub record RecoveryMakes (w : World) (conn : ConnId) (answered : Bool) : Type 0 where
  pub request : (r : RecoveryOp) → ComesDown w conn.0 (recovery_next r) → TakesRequests (w.lowers conn.0) →
      RequestMakes w conn answered r
  pub other : (x : Next) → ComesDown w conn.0 x → w.lowers conn.0 ≡ recovers → IsNoRequest x →
      OtherMakes w conn answered x

abbrev pub RecoveriesMake : Type 0
RecoveriesMake = (w : World) (conn : ConnId) (answered : Bool) → RecoveryMakes w conn answered
