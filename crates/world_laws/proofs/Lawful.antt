-- The book calls of members, requests and recoveries come with the bytes of packets, and with rules whose chunks have lawful sizes.
use Rattle.std.proofs.Common.{◌≡◌, ℕ, ℤ, Bool, true, false, List, Option, Some, None, IfSome, Result, Ok, Err, refl, arith}
use Rattle.std.specs.Prelude.{◌==◌, ◌&&◌, nat_le, length, if◌then◌else◌}
use Rattle.std.specs.Result.{IfOk}
use Rattle.std.proofs.lemmas.Bool.Decides.{nat_tests}
use Rattle.hd_base.specs.declared.numbers.ConnId.{ConnId}
use Rattle.hd_base.specs.declared.states.Status.{Status}
use Rattle.hd_base.specs.declared.sum_rule.SumKind.{SumKind}
use Rattle.hd_base.specs.declared.sum_rule.TheConstants.{MIN_CHUNK_SIZE, MAX_CHUNK_SIZE}
use Rattle.hd_base.specs.SumRules.{Rule, IsChunkSize, kind_number}
use Rattle.hd_base.specs.Results.{◌>>=◌}
use Rattle.world.specs.AckCodec.Response.{Response}
use Rattle.world.specs.OpHeaders.Values.{WriteFields}
use Rattle.world.specs.OpHeaders.RecoveryKind.{RecoveryKind}
use Rattle.world.specs.OpHeaders.RecoveryKind.TheVariants as kind
use Rattle.world.specs.OpHeaders.RecoveryOp.{RecoveryOp}
use Rattle.replica_core.specs.declared.ack_queue.PendingPacket.{PendingPacket}
use Rattle.replica_core.specs.declared.events.Event.{Event}
use Rattle.replica_core.specs.declared.events.Event.TheVariants as event
use Rattle.world.specs.ReplicaModel.Rows.{IsOther, IsWithBytes}
use Rattle.world.specs.RequestRefusals.RequestRefusal.{RequestRefusal}
use Rattle.world.specs.RequestRefusals.RequestRefusal.TheVariants as refusal
use Rattle.world.specs.RequestRefusals.Pools.{is_in_pool}
use Rattle.world.specs.RequestRefusals.Rules.{kind_with, rule_of_kind, rule_with}
use Rattle.world.specs.MemberCore.FromAbove.{FromAbove}
use Rattle.world.specs.MemberCore.FromAbove.TheVariants as above
use Rattle.world.specs.MemberCore.FromBelow.{FromBelow}
use Rattle.world.specs.MemberCore.FromBelow.TheVariants as below
use Rattle.world.specs.MemberCore.Mirror.{Mirror}
use Rattle.world.specs.MemberCore.Mirror.TheVariants as mirror
use Rattle.world.specs.MemberCore.SetupKind.{SetupKind}
use Rattle.world.specs.MemberCore.SetupKind.TheVariants as setup
use Rattle.world.specs.MemberCore.TheConstants.{MAX_BELOW}
use Rattle.world.specs.MemberCore.Turn.{Turn}
use Rattle.world.specs.MemberCore.Acks.{is_success, failures, begins_with_bad_sum, is_read}
use Rattle.world.specs.MemberCore.Members.{MemberState, down_turn, up_turn, up_at, setup_turn, answered_turn, accept_turn, fail_turn, stream_turn, ack_turn, pass_turn, failed_turn, good_turn, partial_turn, spoiled_turn, give_up_turn, named_bad, ready_turn, ready_at, quiet_turn, idle_turn, patient_turn}
use Rattle.world.specs.MemberCore.Requests.{setup_with, unless_other, fitting, rule_for, named_setup, named_rule, setup_event, request_event}
use Rattle.world.specs.RecoveryCore.RecoveryReply.{RecoveryReply}
use Rattle.world.specs.RecoveryCore.Members.{step_event, recovery_event}
use Rattle.world_laws.proofs.FactTables.{if-each}

-- TURNS

-- a turn whose call, if it has one, comes with its bytes
abbrev pub Calls : Turn → Type 0
Calls t = IfSome t.call IsWithBytes

pub down-calls : (m : MemberState) (x : FromAbove) → Calls (down_turn m x)
down-calls m (above.Packet p) = tt
down-calls m above.Unreadable = tt
down-calls m above.End = tt

answered-calls : (m : MemberState) (r : Response) → Calls (answered_turn m r)
answered-calls m r = if-each Calls (is_success r.status) (accept_turn m) (fail_turn m (named_bad r.first_bad)) (λ _. tt) (λ _. tt)

setup-calls : (m : MemberState) (x : FromBelow) → Calls (setup_turn m x)
setup-calls m (below.Response r) = answered-calls m r
setup-calls m (below.Ack a) = tt
setup-calls m below.Unreadable = tt
setup-calls m below.End = tt

failed-calls : (m : MemberState) (e : PendingPacket) (rs : List Status) → Calls (failed_turn m e rs)
failed-calls m e rs = if-each Calls (begins_with_bad_sum rs) (spoiled_turn m) (partial_turn m e _) (λ _. tt) (λ _. tt)

pass-calls : (m : MemberState) (e : PendingPacket) (rs : List Status) → Calls (pass_turn m e rs)
pass-calls m e rs = if-each Calls (failures rs == 0) (good_turn m e _) (failed_turn m e rs) (λ _. tt) (λ _. failed-calls m e rs)

ack-calls : (m : MemberState) (e : PendingPacket) (x : FromBelow) → Calls (ack_turn m e x)
ack-calls m e (below.Ack a) = if-each Calls (is_read m.below e.seqno a) (pass_turn m e a.replies) (give_up_turn m e) (λ _. pass-calls m e a.replies) (λ _. tt)
ack-calls m e (below.Response r) = tt
ack-calls m e below.Unreadable = tt
ack-calls m e below.End = tt

stream-calls : (m : MemberState) (o : Option PendingPacket) (x : FromBelow) → Calls (stream_turn m o x)
stream-calls m None x = tt
stream-calls m (Some e) x = ack-calls m e x

up-at-calls : (q : Mirror) (m : MemberState) (o : Option PendingPacket) (x : FromBelow) → Calls (up_at q m o x)
up-at-calls mirror.Nobody m o x = tt
up-at-calls mirror.Asked m o x = setup-calls m x
up-at-calls mirror.Unreachable m o x = tt
up-at-calls mirror.Open m o x = stream-calls m o x
up-at-calls mirror.Ended m o x = tt

pub up-calls : (m : MemberState) (o : Option PendingPacket) (x : FromBelow) → Calls (up_turn m o x)
up-calls m o x = up-at-calls m.mirror m o x

idle-calls : (m : MemberState) (writes : Bool) → IfSome (idle_turn m writes) Calls
idle-calls m true = tt
idle-calls m false = tt

quiet-calls : (m : MemberState) (bad : Option ℤ) (writes : Bool) → IfSome (quiet_turn m bad writes) Calls
quiet-calls m (Some seqno) writes = tt
quiet-calls m None writes = idle-calls m writes

patient-calls : (m : MemberState) (bad : Option ℤ) → IfSome (patient_turn m bad) Calls
patient-calls m (Some seqno) = tt
patient-calls m None = tt

ready-at-calls : (q : Mirror) (m : MemberState) (o : Option PendingPacket) (writes : Bool) → IfSome (ready_at q m o writes) Calls
ready-at-calls mirror.Asked m o writes = tt
ready-at-calls mirror.Unreachable m o writes = tt
ready-at-calls mirror.Nobody m (Some e) writes = tt
ready-at-calls mirror.Nobody m None writes = quiet-calls m m.bad writes
ready-at-calls mirror.Open m (Some e) writes = tt
ready-at-calls mirror.Open m None writes = patient-calls m m.bad
ready-at-calls mirror.Ended m (Some e) writes = tt
ready-at-calls mirror.Ended m None writes = quiet-calls m m.bad writes

pub ready-calls : (m : MemberState) (o : Option PendingPacket) (writes : Bool) → IfSome (ready_turn m o writes) Calls
ready-calls m o writes =
    if-each (λ (t : Option Turn). IfSome t Calls) m.responds (ready_at m.mirror m o writes) None (λ _. ready-at-calls m.mirror m o writes) (λ _. tt)

-- REQUESTS

-- a rule, if there is one, with a chunk of a lawful size
abbrev Lawful : Option Rule → Type 0
Lawful o = IfSome o (λ r. IsChunkSize r.chunk)

kind-lawful : (k : Option SumKind) (chunk : ℕ) → Lawful (rule_of_kind k chunk)
kind-lawful None chunk = tt
kind-lawful (Some k) chunk = sized (nat_le MIN_CHUNK_SIZE chunk) (nat_le chunk MAX_CHUNK_SIZE) refl refl
  where
    sized : (a b : Bool) → nat_le MIN_CHUNK_SIZE chunk ≡ a → nat_le chunk MAX_CHUNK_SIZE ≡ b
        → Lawful (if a && b then Some (record { kind = k; chunk = chunk }) else None)
    sized true true e f = record { least = grind (arith, nat_tests, e); greatest = grind (arith, nat_tests, f) }
    sized true false e f = tt
    sized false b e f = tt

with-lawful : (kind chunk : ℕ) → Lawful (rule_with kind chunk)
unfolding rule_with
with-lawful kind chunk = kind-lawful (kind_with kind) chunk

other-lawful : (held : Option Rule) (rule : Rule) → IsChunkSize rule.chunk → Lawful (unless_other held rule)
other-lawful None rule h = h
other-lawful (Some held) rule h =
    if-each Lawful (kind_number held.kind == kind_number rule.kind && held.chunk == rule.chunk) (Some rule) None (λ _. h) (λ _. tt)

fitting-lawful : (held : Option Rule) (o : Option Rule) → Lawful o → Lawful (fitting held o)
fitting-lawful held None h = tt
fitting-lawful held (Some rule) h = other-lawful held rule h

rule-lawful : (f : WriteFields) (held : Option Rule) → Lawful (rule_for f held)
unfolding rule_for
rule-lawful f held = fitting-lawful held (rule_with f.kind f.chunk) (with-lawful f.kind f.chunk)

event-other : (conn : ConnId) (f : WriteFields) (r : Rule) (s : SetupKind) → IsChunkSize r.chunk → IsOther (setup_event conn f r s)
event-other conn f r setup.Create h = h
event-other conn f r setup.Append h = tt
event-other conn f r setup.AppendRecovery h = tt
event-other conn f r setup.StreamRecovery h = tt
event-other conn f r setup.CloseRecovery h = tt

-- a request that isn't refused before is such an event
abbrev pub Others : {E : Type 0} → Result Event E → Type 0
Others r = IfOk r IsOther

checked : (b : Bool) (e : RequestRefusal) (r : Result Event RequestRefusal) → Others r → Others (if b then r else Err e)
checked true e r h = h
checked false e r h = tt

few-other : (conn : ConnId) (f : WriteFields) (s : SetupKind) (o : Option Rule) → Lawful o
    → Others (named_rule f o >>= (λ sums. if nat_le (length f.targets) MAX_BELOW then Ok (setup_event conn f sums s) else Err (refusal.TooMany (length f.targets))))
few-other conn f s None h = tt
few-other conn f s (Some r) h = checked (nat_le (length f.targets) MAX_BELOW) _ (Ok (setup_event conn f r s)) (event-other conn f r s h)

named-other : (conn : ConnId) (f : WriteFields) (held : Option Rule) (s : Option SetupKind)
    → Others (named_setup f.stage s >>= (λ kind. named_rule f (rule_for f held) >>= (λ sums.
    if nat_le (length f.targets) MAX_BELOW then Ok (setup_event conn f sums kind) else Err (refusal.TooMany (length f.targets)))))
named-other conn f held None = tt
named-other conn f held (Some s) = few-other conn f s (rule_for f held) (rule-lawful f held)

pub request-other : (conn : ConnId) (f : WriteFields) (held : Option Rule) → Others (request_event conn f held)
unfolding request_event
request-other conn f held = checked (is_in_pool f.block) refusal.Pool _ (named-other conn f held (setup_with f.stage))

-- STEPS OF RECOVERIES

init-other : (b : Bool) (e : RecoveryReply) (x : Event) → IsOther x → Others (if b then Err e else Ok x)
init-other true e x h = tt
init-other false e x h = h

step-other : (k : RecoveryKind) (r : RecoveryOp) → Others (step_event k r)
step-other kind.Begin r = tt
step-other kind.Init r = init-other (r.recovery.0 == 0) _ (event.Init r.block.stamp r.recovery) tt
step-other kind.Update r = tt

pub recovery-other : (r : RecoveryOp) → Others (recovery_event r)
unfolding recovery_event
recovery-other r = if-each Others (is_in_pool r.block) (step_event r.kind r) _ (λ _. step-other r.kind r) (λ _. tt)
