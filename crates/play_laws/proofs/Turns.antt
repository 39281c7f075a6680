-- What a member's turns send, and what they leave of a replica's pending packets.
use Rattle.std.proofs.Common.{◌≡◌, ℕ, ℤ, ◌≤◌, ◌⊎◌, inl, inr, Bool, true, false, List, slice_get, Option, Some, None, IfSome, refl, sym, ap, subst, arith}
use Rattle.std.specs.Prelude.{◌==◌}
use Rattle.hd_base.specs.declared.states.Status.{Status}
use Rattle.ack_codec.specs.declared.responses.Response.{Response}
use Rattle.replica_core.specs.declared.ack_queue.PendingPacket.{PendingPacket}
use Rattle.replica_core.specs.declared.events.Event.TheVariants as event
use Rattle.replica_core.specs.declared.refusals.Refusal.{Refusal}
use Rattle.replica_core.specs.declared.refusals.Refusal.TheVariants as refusal
use Rattle.replica_core.specs.Transitions.{is_written_by}
use Rattle.replica_model.specs.declared.events.ReplicaEvent.{ReplicaEvent}
use Rattle.replica_model.specs.declared.events.ReplicaEvent.TheVariants as replica_event
use Rattle.replica_model.specs.Rows.{FullReplica}
use Rattle.member_core.specs.declared.effects.Shuts.{Shuts}
use Rattle.member_core.specs.declared.effects.Shuts.TheVariants as shuts
use Rattle.member_core.specs.declared.inputs.FromBelow.{FromBelow}
use Rattle.member_core.specs.declared.inputs.FromBelow.TheVariants as below
use Rattle.member_core.specs.declared.member.Mirror.{Mirror}
use Rattle.member_core.specs.declared.member.Mirror.TheVariants as mirror
use Rattle.member_core.specs.declared.turns.Booked.{Booked}
use Rattle.member_core.specs.declared.turns.Booked.TheVariants as booked
use Rattle.member_core.specs.declared.turns.Side.{Side}
use Rattle.member_core.specs.declared.turns.Side.TheVariants as side
use Rattle.member_core.specs.declared.turns.Turn.{Turn}
use Rattle.member_core.specs.Acks.{is_success, failures, begins_with_bad_sum, is_read, with_own}
use Rattle.member_core.specs.Members.{MemberState, is_waiting, closed, closed_by, bad_sum, cut_off, refused_turn, settled, fail_turn, named_bad, accept_turn, setup_turn, answered_turn, good_turn, give_up_turn, spoiled_turn, partial_turn, failed_turn, pass_turn, ack_turn, stream_turn, up_at, up_turn, quiet_turn, patient_turn, ready_at}
use Rattle.member_core.specs.Steps.{step, faulted_step, replica_after, outcome_of, ready_turn_at}
use Rattle.play_model.proofs.WorldLaws.FactTables.{if-each, when-each}
use Rattle.world_settling.specs.Traffic.{entries_by}
use Rattle.world_settling.proofs.Rows.{IsPacket, other-calm, ack-pays}

-- a book call that is no packet
abbrev pub Plain : Option ReplicaEvent → Type 0
Plain None = Unit {0}
Plain (Some (replica_event.Packet conn p)) = ⊥
Plain (Some (replica_event.Other e)) = IsPacket e ≡ false

-- A turn says nothing, or what its member owes: the ack of a packet that is pending, the answer to its request, or a packet with a wrong sum.
pub data Kind (m : MemberState) (t : Turn) : Type 0 where
  says_nothing : t.effect.sends ≡ None → Plain t.call → Kind m t
  says_ack : (q : ℤ) (good : Bool) → t.call ≡ Some (replica_event.Other (event.Ack m.conn q good)) → Kind m t
  says_answer : is_waiting m.mirror ≡ true → Plain t.call → Kind m t
  says_bad : (q : ℤ) → m.bad ≡ Some q → Plain t.call → Kind m t

kind-plain : (m : MemberState) (t : Turn) → Kind m t → Plain t.call
kind-plain m t (says_nothing e p) = p
kind-plain m t (says_ack q good e) = subst Plain (sym e) refl
kind-plain m t (says_answer e p) = p
kind-plain m t (says_bad q e p) = p

-- WHAT FOLLOWS THE BOOK CALL

plain-held : (c : ℕ) (r : FullReplica) (o : Option ReplicaEvent) → Plain o → entries_by c (replica_after r o).known ≤ entries_by c r.known
plain-held c r None p = omega arith
plain-held c r (Some (replica_event.Other e)) p = other-calm c r.known e p
plain-held c r (Some (replica_event.Packet conn x)) p = absurd p

closed-bad : (s : Side) (m : MemberState) → (closed s m).bad ≡ m.bad
closed-bad side.Receiver m = refl
closed-bad side.Responder m = refl

closed-by-bad : (x : Shuts) (s : Side) (m : MemberState) → (closed_by x s m).bad ≡ m.bad
closed-by-bad shuts.Nothing s m = refl
closed-by-bad shuts.Mirror s m = closed-bad s m
closed-by-bad shuts.Both s m = closed-bad s m

-- a refused book call that is no packet cuts the member off
bad-cuts : (m : MemberState) (o : Option ReplicaEvent) (t : Turn) → Plain o → bad_sum m o t ≡ cut_off m t
bad-cuts m None t p = refl
bad-cuts m (Some (replica_event.Other e)) t p = refl
bad-cuts m (Some (replica_event.Packet conn x)) t p = absurd p

refused-cuts : (m : MemberState) (t : Turn) (y : Refusal) → Plain t.call → refused_turn m t y ≡ cut_off m t
refused-cuts m t (refusal.BadSum a) p = bad-cuts m t.call t p
refused-cuts m t refusal.NoReplica p = refl
refused-cuts m t refusal.Exists p = refl
refused-cuts m t (refusal.WrongState a) p = refl
refused-cuts m t (refusal.Stale a b c) p = refl
refused-cuts m t (refusal.LengthOut a b c d) p = refl
refused-cuts m t refusal.NotWriter p = refl
refused-cuts m t (refusal.Gap a b) p = refl
refused-cuts m t (refusal.Piece a) p = refl
refused-cuts m t refusal.Broken p = refl
refused-cuts m t (refusal.RecoveryHeld a) p = refl
refused-cuts m t (refusal.Seqno a b) p = refl
refused-cuts m t (refusal.OutOfRange a) p = refl

settled-bad : (m : MemberState) (t : Turn) (b : Booked) → Plain t.call → (settled m t b).0.bad ≡ m.bad
settled-bad m t booked.Taken p = closed-by-bad t.effect.shuts t.side (record m { mirror = t.mirror })
settled-bad m t (booked.Refused y) p = rw (refused-cuts m t y p) (closed-bad t.side m)
settled-bad m t booked.Failed p = closed-bad t.side m

settled-sends : (m : MemberState) (t : Turn) (b : Booked) → Plain t.call → (b ≡ booked.Taken → t.effect.sends ≡ None) → (settled m t b).1.sends ≡ None
settled-sends m t booked.Taken p f = f refl
settled-sends m t (booked.Refused y) p f = rw (refused-cuts m t y p) refl
settled-sends m t booked.Failed p f = refl

-- A STEP

-- where nothing is pending of its connection, a step says nothing, or the answer to the request
pub record Hushes (c : ℕ) (m : MemberState) (r : FullReplica) (t : Turn) : Type 0 where
  pub held : (i : ℕ) → entries_by i (step m r t).replica.known ≤ entries_by i r.known
  pub bad : (step m r t).member.bad ≡ m.bad
  pub sends : m.conn.0 ≡ c → entries_by c r.known ≡ 0 → m.bad ≡ None → ((step m r t).effect.sends ≡ None) ⊎ (is_waiting m.mirror ≡ true)

-- no ack is taken where nothing is pending
untaken : (c : ℕ) (m : MemberState) (r : FullReplica) (q : ℤ) (good : Bool) → m.conn.0 ≡ c → entries_by c r.known ≡ 0
    → outcome_of r (Some (replica_event.Other (event.Ack m.conn q good))) ≡ booked.Taken → ⊥
untaken c m r q good is none e =
    let none' : entries_by m.conn.0 r.known ≡ 0 = subst (λ (i : ℕ). entries_by i r.known ≡ 0) (sym is) none in
    let pays = ack-pays r.known m.conn q good e in
    omega (arith, pays, none')

none-bad : (q : ℤ) (o : Option ℤ) → o ≡ Some q → o ≡ None → ⊥
none-bad q o e f = cc

kind-sends : (c : ℕ) (m : MemberState) (r : FullReplica) (t : Turn) → m.conn.0 ≡ c → entries_by c r.known ≡ 0 → m.bad ≡ None → Kind m t → ((step m r t).effect.sends ≡ None) ⊎ (is_waiting m.mirror ≡ true)
kind-sends c m r t is none b (says_nothing e p) = inl (settled-sends m t (outcome_of r t.call) p (λ _. e))
kind-sends c m r t is none b (says_ack q good e) =
    inl (settled-sends m t (outcome_of r t.call) (kind-plain m t (says_ack q good e))
    (λ x. absurd (untaken c m r q good is none (subst (λ (o : Option ReplicaEvent). outcome_of r o ≡ booked.Taken) e x))))
kind-sends c m r t is none b (says_answer e p) = inr e
kind-sends c m r t is none b (says_bad q e p) = absurd (none-bad q m.bad e b)

pub kind-hushes : (c : ℕ) (m : MemberState) (r : FullReplica) (t : Turn) → Kind m t → Hushes c m r t
kind-hushes c m r t k = record {
  held = λ i. plain-held i r t.call (kind-plain m t k);
  bad = settled-bad m t (outcome_of r t.call) (kind-plain m t k);
  sends = λ is none b. kind-sends c m r t is none b k;
}

-- a failed call on files
pub fault-held : (i : ℕ) (m : MemberState) (r : FullReplica) (t : Turn) → entries_by i (faulted_step m r t).replica.known ≤ entries_by i r.known
fault-held i m r t = other-calm i r.known event.FileFault refl

pub fault-bad : (m : MemberState) (r : FullReplica) (t : Turn) → (faulted_step m r t).member.bad ≡ m.bad
fault-bad m r t = closed-bad t.side m

-- WHICH TURNS

pass-kind : (m : MemberState) (e : PendingPacket) (replies : List Status) → Kind m (pass_turn m e replies)
pass-kind m e replies = if-each (Kind m) (failures replies == 0) (good_turn m e (with_own replies)) (failed_turn m e replies)
    (λ _. says_ack e.seqno true refl)
    (λ _. if-each (Kind m) (begins_with_bad_sum replies) (spoiled_turn m) (partial_turn m e (with_own replies)) (λ _. says_nothing refl refl) (λ _. says_ack e.seqno false refl))

ack-kind : (m : MemberState) (e : PendingPacket) (x : FromBelow) → Kind m (ack_turn m e x)
ack-kind m e (below.Ack a) = if-each (Kind m) (is_read m.below e.seqno a) (pass_turn m e a.replies) (give_up_turn m e) (λ _. pass-kind m e a.replies) (λ _. says_ack e.seqno false refl)
ack-kind m e (below.Response r) = says_ack e.seqno false refl
ack-kind m e below.Unreadable = says_ack e.seqno false refl
ack-kind m e below.End = says_ack e.seqno false refl

stream-kind : (m : MemberState) (o : Option PendingPacket) (x : FromBelow) → Kind m (stream_turn m o x)
stream-kind m None x = says_nothing refl tt
stream-kind m (Some e) x = ack-kind m e x

answered-kind : (m : MemberState) (r : Response) → is_waiting m.mirror ≡ true → Kind m (answered_turn m r)
answered-kind m r w = if-each (Kind m) (is_success r.status) (accept_turn m) (fail_turn m (named_bad r.first_bad)) (λ _. says_answer w tt) (λ _. says_answer w refl)

setup-kind : (m : MemberState) (x : FromBelow) → is_waiting m.mirror ≡ true → Kind m (setup_turn m x)
setup-kind m (below.Response r) w = answered-kind m r w
setup-kind m (below.Ack a) w = says_answer w refl
setup-kind m below.Unreadable w = says_answer w refl
setup-kind m below.End w = says_answer w refl

up-at-kind : (x : Mirror) (m : MemberState) (o : Option PendingPacket) (y : FromBelow) → m.mirror ≡ x → Kind m (up_at x m o y)
up-at-kind mirror.Asked m o y e = setup-kind m y (ap is_waiting e)
up-at-kind mirror.Open m o y e = stream-kind m o y
up-at-kind mirror.Nobody m o y e = says_nothing refl tt
up-at-kind mirror.Unreachable m o y e = says_nothing refl tt
up-at-kind mirror.Ended m o y e = says_nothing refl tt

pub up-kind : (m : MemberState) (o : Option PendingPacket) (y : FromBelow) → Kind m (up_turn m o y)
up-kind m o y = up-at-kind m.mirror m o y refl

quiet-kind : (m : MemberState) (o : Option ℤ) (writes : Bool) → m.bad ≡ o → IfSome (quiet_turn m o writes) (Kind m)
quiet-kind m (Some q) writes e = says_bad q e refl
quiet-kind m None true e = tt
quiet-kind m None false e = says_nothing refl tt

patient-kind : (m : MemberState) (o : Option ℤ) → m.bad ≡ o → IfSome (patient_turn m o) (Kind m)
patient-kind m (Some q) e = says_bad q e refl
patient-kind m None e = tt

ready-at-kind : (x : Mirror) (m : MemberState) (o : Option PendingPacket) (writes : Bool) → m.mirror ≡ x → IfSome (ready_at x m o writes) (Kind m)
ready-at-kind mirror.Asked m o writes e = tt
ready-at-kind mirror.Unreachable m o writes e = says_answer (ap is_waiting e) refl
ready-at-kind mirror.Nobody m (Some p) writes e = says_ack p.seqno true refl
ready-at-kind mirror.Nobody m None writes e = quiet-kind m m.bad writes refl
ready-at-kind mirror.Open m (Some p) writes e = tt
ready-at-kind mirror.Open m None writes e = patient-kind m m.bad refl
ready-at-kind mirror.Ended m (Some p) writes e = says_ack p.seqno false refl
ready-at-kind mirror.Ended m None writes e = quiet-kind m m.bad writes refl

pub ready-kind : (m : MemberState) (r : FullReplica) → IfSome (ready_turn_at m r) (Kind m)
ready-kind m r = when-each (Kind m) m.responds (ready_at m.mirror m (slice_get r.known.pending 0) (is_written_by r.known.stream m.conn)) (λ _. ready-at-kind m.mirror m (slice_get r.known.pending 0) (is_written_by r.known.stream m.conn) refl)
