-- The turns of members that book an end or an ack.
use Rattle.replica_core.specs.declared.events.Event.TheVariants as event
use Rattle.std.proofs.Common.{ℤ, Bool, true, false, List, Option, Some, None, IfSome}
use Rattle.std.specs.Prelude.{◌==◌}
use Rattle.hd_base.specs.declared.states.Status.{Status}
use Rattle.ack_codec.specs.declared.responses.Response.{Response}
use Rattle.replica_core.specs.declared.ack_queue.PendingPacket.{PendingPacket}
use Rattle.replica_model.specs.declared.events.ReplicaEvent.{ReplicaEvent}
use Rattle.replica_model.specs.declared.events.ReplicaEvent.TheVariants as replica_event
use Rattle.member_core.specs.declared.inputs.FromAbove.TheVariants as above
use Rattle.member_core.specs.declared.inputs.FromBelow.{FromBelow}
use Rattle.member_core.specs.declared.inputs.FromBelow.TheVariants as below
use Rattle.member_core.specs.declared.member.Mirror.{Mirror}
use Rattle.member_core.specs.declared.member.Mirror.TheVariants as mirror
use Rattle.member_core.specs.declared.turns.Turn.{Turn}
use Rattle.member_core.specs.Acks.{is_success, failures, begins_with_bad_sum, is_read}
use Rattle.member_core.specs.Members.{MemberState, down_turn, up_turn, up_at, setup_turn, answered_turn, accept_turn, fail_turn, stream_turn, ack_turn, pass_turn, failed_turn, good_turn, partial_turn, spoiled_turn, give_up_turn, named_bad, ready_turn, ready_at, quiet_turn, idle_turn, patient_turn}
use Rattle.world_laws.proofs.FactTables.{if-each}

-- an end or an ack
abbrev pub IsIdle : ReplicaEvent → Type 0
IsIdle (replica_event.Other (event.Ack conn seqno good)) = Unit {0}
IsIdle (replica_event.Other (event.Ended conn)) = Unit {0}
IsIdle _ = ⊥

-- a turn that books nothing else
abbrev pub Idle : Turn → Type 0
Idle t = IfSome t.call IsIdle

pub unreadable-idle : (m : MemberState) → Idle (down_turn m above.Unreadable)
unreadable-idle m = tt

pub end-idle : (m : MemberState) → Idle (down_turn m above.End)
end-idle m = tt

answered-idle : (m : MemberState) (r : Response) → Idle (answered_turn m r)
answered-idle m r = if-each Idle (is_success r.status) (accept_turn m) (fail_turn m (named_bad r.first_bad)) (λ _. tt) (λ _. tt)

setup-idle : (m : MemberState) (x : FromBelow) → Idle (setup_turn m x)
setup-idle m (below.Response r) = answered-idle m r
setup-idle m (below.Ack a) = tt
setup-idle m below.Unreadable = tt
setup-idle m below.End = tt

failed-idle : (m : MemberState) (e : PendingPacket) (rs : List Status) → Idle (failed_turn m e rs)
failed-idle m e rs = if-each Idle (begins_with_bad_sum rs) (spoiled_turn m) (partial_turn m e _) (λ _. tt) (λ _. tt)

pass-idle : (m : MemberState) (e : PendingPacket) (rs : List Status) → Idle (pass_turn m e rs)
pass-idle m e rs = if-each Idle (failures rs == 0) (good_turn m e _) (failed_turn m e rs) (λ _. tt) (λ _. failed-idle m e rs)

ack-idle : (m : MemberState) (e : PendingPacket) (x : FromBelow) → Idle (ack_turn m e x)
ack-idle m e (below.Ack a) = if-each Idle (is_read m.below e.seqno a) (pass_turn m e a.replies) (give_up_turn m e) (λ _. pass-idle m e a.replies) (λ _. tt)
ack-idle m e (below.Response r) = tt
ack-idle m e below.Unreadable = tt
ack-idle m e below.End = tt

stream-idle : (m : MemberState) (o : Option PendingPacket) (x : FromBelow) → Idle (stream_turn m o x)
stream-idle m None x = tt
stream-idle m (Some e) x = ack-idle m e x

up-at-idle : (q : Mirror) (m : MemberState) (o : Option PendingPacket) (x : FromBelow) → Idle (up_at q m o x)
up-at-idle mirror.Asked m o x = setup-idle m x
up-at-idle mirror.Open m o x = stream-idle m o x
up-at-idle mirror.Nobody m o x = tt
up-at-idle mirror.Unreachable m o x = tt
up-at-idle mirror.Ended m o x = tt

pub up-idle : (m : MemberState) (o : Option PendingPacket) (x : FromBelow) → Idle (up_turn m o x)
up-idle m o x = up-at-idle m.mirror m o x

idle-idle : (m : MemberState) (writes : Bool) → IfSome (idle_turn m writes) Idle
idle-idle m true = tt
idle-idle m false = tt

quiet-idle : (m : MemberState) (bad : Option ℤ) (writes : Bool) → IfSome (quiet_turn m bad writes) Idle
quiet-idle m (Some seqno) writes = tt
quiet-idle m None writes = idle-idle m writes

patient-idle : (m : MemberState) (bad : Option ℤ) → IfSome (patient_turn m bad) Idle
patient-idle m (Some seqno) = tt
patient-idle m None = tt

ready-at-idle : (q : Mirror) (m : MemberState) (o : Option PendingPacket) (writes : Bool) → IfSome (ready_at q m o writes) Idle
ready-at-idle mirror.Asked m o writes = tt
ready-at-idle mirror.Unreachable m o writes = tt
ready-at-idle mirror.Nobody m (Some e) writes = tt
ready-at-idle mirror.Nobody m None writes = quiet-idle m m.bad writes
ready-at-idle mirror.Open m (Some e) writes = tt
ready-at-idle mirror.Open m None writes = patient-idle m m.bad
ready-at-idle mirror.Ended m (Some e) writes = tt
ready-at-idle mirror.Ended m None writes = quiet-idle m m.bad writes

pub ready-idle : (m : MemberState) (o : Option PendingPacket) (writes : Bool) → IfSome (ready_turn m o writes) Idle
ready-idle m o writes = if-each (λ (t : Option Turn). IfSome t Idle) m.responds (ready_at m.mirror m o writes) None (λ _. ready-at-idle m.mirror m o writes) (λ _. tt)
