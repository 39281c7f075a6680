-- No book call of members, requests and recoveries is itself a failed call on files.
use Rattle.std.proofs.Common.{ℤ, Bool, true, false, List, Option, Some, None, IfSome, Result, Ok, Err}
use Rattle.std.specs.Prelude.{◌==◌, nat_le, length, if◌then◌else◌}
use Rattle.std.specs.Result.{IfOk}
use Rattle.hd_base.specs.declared.numbers.ConnId.{ConnId}
use Rattle.hd_base.specs.declared.states.Status.{Status}
use Rattle.hd_base.specs.SumRules.{Rule}
use Rattle.hd_base.specs.Results.{◌>>=◌}
use Rattle.ack_codec.specs.declared.responses.Response.{Response}
use Rattle.op_headers.specs.Values.{WriteFields}
use Rattle.op_headers.specs.declared.ops.RecoveryKind.{RecoveryKind}
use Rattle.op_headers.specs.declared.ops.RecoveryKind.TheVariants as kind
use Rattle.op_headers.specs.declared.ops.RecoveryOp.{RecoveryOp}
use Rattle.replica_core.specs.declared.ack_queue.PendingPacket.{PendingPacket}
use Rattle.replica_core.specs.declared.events.Event.{Event}
use Rattle.replica_core.specs.declared.events.Event.TheVariants as event
use Rattle.replica_model.specs.declared.events.ReplicaEvent.{ReplicaEvent}
use Rattle.replica_model.specs.declared.events.ReplicaEvent.TheVariants as replica_event
use Rattle.request_refusals.specs.declared.refusals.RequestRefusal.{RequestRefusal}
use Rattle.request_refusals.specs.declared.refusals.RequestRefusal.TheVariants as refusal
use Rattle.request_refusals.specs.Pools.{is_in_pool}
use Rattle.member_core.specs.declared.inputs.FromAbove.{FromAbove}
use Rattle.member_core.specs.declared.inputs.FromAbove.TheVariants as above
use Rattle.member_core.specs.declared.inputs.FromBelow.{FromBelow}
use Rattle.member_core.specs.declared.inputs.FromBelow.TheVariants as below
use Rattle.member_core.specs.declared.member.Mirror.{Mirror}
use Rattle.member_core.specs.declared.member.Mirror.TheVariants as mirror
use Rattle.member_core.specs.declared.requests.SetupKind.{SetupKind}
use Rattle.member_core.specs.declared.requests.SetupKind.TheVariants as setup
use Rattle.member_core.specs.declared.requests.TheConstants.{MAX_BELOW}
use Rattle.member_core.specs.declared.turns.Turn.{Turn}
use Rattle.member_core.specs.Acks.{is_success, failures, begins_with_bad_sum, is_read}
use Rattle.member_core.specs.Members.{MemberState, down_turn, up_turn, up_at, setup_turn, answered_turn, accept_turn, fail_turn, stream_turn, ack_turn, pass_turn, failed_turn, good_turn, partial_turn, spoiled_turn, give_up_turn, named_bad, ready_turn, ready_at, quiet_turn, idle_turn, patient_turn}
use Rattle.member_core.specs.Requests.{setup_with, rule_for, named_setup, named_rule, setup_event, request_event}
use Rattle.world_laws.specs.RecoveryCore.RecoveryReply.{RecoveryReply}
use Rattle.world_laws.specs.RecoveryCore.Members.{step_event, recovery_event}
use Rattle.world_laws.proofs.FactTables.{if-each}

-- an event that isn't a failed call on files
abbrev pub Proper : Event → Type 0
Proper event.FileFault = ⊥
Proper _ = Unit {0}

abbrev pub ProperCall : ReplicaEvent → Type 0
ProperCall (replica_event.Packet conn p) = Unit {0}
ProperCall (replica_event.Other e) = Proper e

-- TURNS

-- a turn whose call, if it has one, is such an event
abbrev pub Calls : Turn → Type 0
Calls t = IfSome t.call ProperCall

pub down-calls : (m : MemberState) (x : FromAbove) → Calls (down_turn m x)
down-calls m (above.Packet p) = tt
down-calls m above.Unreadable = tt
down-calls m above.End = tt

answered-calls : (m : MemberState) (r : Response) → Calls (answered_turn m r)
answered-calls m r = if-each Calls (is_success r.status) (accept_turn m) (fail_turn m (named_bad r.first_bad)) (λ _. tt) (λ _. tt)

setup-calls : (m : MemberState) (x : FromBelow) → Calls (setup_turn m x)
setup-calls m (below.Response r) = answered-calls m r
setup-calls m (below.Ack a) = tt
setup-calls m below.Unreadable = tt
setup-calls m below.End = tt

failed-calls : (m : MemberState) (e : PendingPacket) (rs : List Status) → Calls (failed_turn m e rs)
failed-calls m e rs = if-each Calls (begins_with_bad_sum rs) (spoiled_turn m) (partial_turn m e _) (λ _. tt) (λ _. tt)

pass-calls : (m : MemberState) (e : PendingPacket) (rs : List Status) → Calls (pass_turn m e rs)
pass-calls m e rs = if-each Calls (failures rs == 0) (good_turn m e _) (failed_turn m e rs) (λ _. tt) (λ _. failed-calls m e rs)

ack-calls : (m : MemberState) (e : PendingPacket) (x : FromBelow) → Calls (ack_turn m e x)
ack-calls m e (below.Ack a) = if-each Calls (is_read m.below e.seqno a) (pass_turn m e a.replies) (give_up_turn m e) (λ _. pass-calls m e a.replies) (λ _. tt)
ack-calls m e (below.Response r) = tt
ack-calls m e below.Unreadable = tt
ack-calls m e below.End = tt

stream-calls : (m : MemberState) (o : Option PendingPacket) (x : FromBelow) → Calls (stream_turn m o x)
stream-calls m None x = tt
stream-calls m (Some e) x = ack-calls m e x

up-at-calls : (q : Mirror) (m : MemberState) (o : Option PendingPacket) (x : FromBelow) → Calls (up_at q m o x)
up-at-calls mirror.Nobody m o x = tt
up-at-calls mirror.Asked m o x = setup-calls m x
up-at-calls mirror.Unreachable m o x = tt
up-at-calls mirror.Open m o x = stream-calls m o x
up-at-calls mirror.Ended m o x = tt

pub up-calls : (m : MemberState) (o : Option PendingPacket) (x : FromBelow) → Calls (up_turn m o x)
up-calls m o x = up-at-calls m.mirror m o x

idle-calls : (m : MemberState) (writes : Bool) → IfSome (idle_turn m writes) Calls
idle-calls m true = tt
idle-calls m false = tt

quiet-calls : (m : MemberState) (bad : Option ℤ) (writes : Bool) → IfSome (quiet_turn m bad writes) Calls
quiet-calls m (Some seqno) writes = tt
quiet-calls m None writes = idle-calls m writes

patient-calls : (m : MemberState) (bad : Option ℤ) → IfSome (patient_turn m bad) Calls
patient-calls m (Some seqno) = tt
patient-calls m None = tt

ready-at-calls : (q : Mirror) (m : MemberState) (o : Option PendingPacket) (writes : Bool) → IfSome (ready_at q m o writes) Calls
ready-at-calls mirror.Asked m o writes = tt
ready-at-calls mirror.Unreachable m o writes = tt
ready-at-calls mirror.Nobody m (Some e) writes = tt
ready-at-calls mirror.Nobody m None writes = quiet-calls m m.bad writes
ready-at-calls mirror.Open m (Some e) writes = tt
ready-at-calls mirror.Open m None writes = patient-calls m m.bad
ready-at-calls mirror.Ended m (Some e) writes = tt
ready-at-calls mirror.Ended m None writes = quiet-calls m m.bad writes

pub ready-calls : (m : MemberState) (o : Option PendingPacket) (writes : Bool) → IfSome (ready_turn m o writes) Calls
ready-calls m o writes =
    if-each (λ (t : Option Turn). IfSome t Calls) m.responds (ready_at m.mirror m o writes) None (λ _. ready-at-calls m.mirror m o writes) (λ _. tt)

-- REQUESTS

-- a request that isn't refused before is such an event
abbrev pub Requests : {E : Type 0} → Result Event E → Type 0
Requests r = IfOk r Proper

setup-proper : (conn : ConnId) (f : WriteFields) (r : Rule) (s : SetupKind) → Proper (setup_event conn f r s)
setup-proper conn f r setup.Create = tt
setup-proper conn f r setup.Append = tt
setup-proper conn f r setup.AppendRecovery = tt
setup-proper conn f r setup.StreamRecovery = tt
setup-proper conn f r setup.CloseRecovery = tt

checked : (b : Bool) (e : RequestRefusal) (r : Result Event RequestRefusal) → Requests r → Requests (if b then r else Err e)
checked true e r h = h
checked false e r h = tt

few-proper : (conn : ConnId) (f : WriteFields) (s : SetupKind) (o : Option Rule)
    → Requests (named_rule f o >>= (λ sums. if nat_le (length f.targets) MAX_BELOW then Ok (setup_event conn f sums s) else Err (refusal.TooMany (length f.targets))))
few-proper conn f s None = tt
few-proper conn f s (Some r) = checked (nat_le (length f.targets) MAX_BELOW) _ (Ok (setup_event conn f r s)) (setup-proper conn f r s)

named-proper : (conn : ConnId) (f : WriteFields) (held : Option Rule) (s : Option SetupKind)
    → Requests (named_setup f.stage s >>= (λ kind. named_rule f (rule_for f held) >>= (λ sums.
    if nat_le (length f.targets) MAX_BELOW then Ok (setup_event conn f sums kind) else Err (refusal.TooMany (length f.targets)))))
named-proper conn f held None = tt
named-proper conn f held (Some s) = few-proper conn f s (rule_for f held)

pub request-proper : (conn : ConnId) (f : WriteFields) (held : Option Rule) → Requests (request_event conn f held)
unfolding request_event
request-proper conn f held = checked (is_in_pool f.block) refusal.Pool _ (named-proper conn f held (setup_with f.stage))

-- STEPS OF RECOVERIES

init-proper : (b : Bool) (e : RecoveryReply) (x : Event) → Proper x → Requests (if b then Err e else Ok x)
init-proper true e x h = tt
init-proper false e x h = h

step-proper : (k : RecoveryKind) (r : RecoveryOp) → Requests (step_event k r)
step-proper kind.Begin r = tt
step-proper kind.Init r = init-proper (r.recovery.0 == 0) _ (event.Init r.block.stamp r.recovery) tt
step-proper kind.Update r = tt

pub recovery-proper : (r : RecoveryOp) → Requests (recovery_event r)
unfolding recovery_event
recovery-proper r = if-each Requests (is_in_pool r.block) (step_event r.kind r) _ (λ _. step-proper r.kind r) (λ _. tt)
