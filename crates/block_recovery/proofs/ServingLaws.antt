-- The event that a request is, is a step.
use Rattle.std.proofs.Common.{◌≡◌, ℕ, zero, suc, ◌≤◌, ◌==◌, if◌then◌else◌, Bool, true, false, Ok, Err, arith, refl, subst}
use Rattle.hd_base.specs.declared.numbers.Stamp.{Stamp}
use Rattle.op_headers.specs.declared.ops.RecoveryKind.{RecoveryKind}
use Rattle.op_headers.specs.declared.ops.RecoveryKind.TheVariants as kind
use Rattle.op_headers.specs.declared.ops.RecoveryOp.{RecoveryOp}
use Rattle.recovery_core.specs.Members.{step_event, recovery_event, no_recovery}
use Rattle.recovery_core.specs.declared.members.RecoveryReply.TheVariants as reply
use Rattle.replica_core.specs.declared.events.Event.{Event}
use Rattle.replica_core.specs.declared.events.Event.TheVariants as event
use Rattle.request_refusals.specs.Pools.{is_in_pool}
use Rattle.request_refusals.specs.declared.refusals.RequestRefusal.TheVariants as refusal
use Rattle.block_recovery.specs.Serving.{IsStep}

some_id : (id : ℕ) → (id == 0) ≡ false → 1 ≤ id
some_id zero e = cc
some_id (suc n) e = omega arith

init_is_step : (named id : Stamp) (zero : Bool) (e : Event) → (id.0 == 0) ≡ zero →
    (if zero then Err no_recovery else Ok (event.Init named id)) ≡ Ok e → IsStep e
init_is_step named id true e z is = cc
init_is_step named id false e z is = let q : event.Init named id ≡ e = cc in subst IsStep q (some_id id.0 z)

step_is_step : (k : RecoveryKind) (op : RecoveryOp) (e : Event) → step_event k op ≡ Ok e → IsStep e
step_is_step kind.Begin op e is = cc
step_is_step kind.Init op e is = init_is_step op.block.stamp op.recovery _ e refl is
step_is_step kind.Update op e is = let q : event.Update op.recovery op.new_length ≡ e = cc in subst IsStep q tt

pooled : (in_pool : Bool) (op : RecoveryOp) (e : Event) →
    (if in_pool then step_event op.kind op else Err (reply.Refused refusal.Pool)) ≡ Ok e → IsStep e
pooled true op e is = step_is_step op.kind op e is
pooled false op e is = cc

pub request_is_step : (op : RecoveryOp) (e : Event) → recovery_event op ≡ Ok e → IsStep e
unfolding recovery_event
request_is_step op e is = pooled (is_in_pool op.block) op e is
