-- What a turn of a member makes is paid by what it takes, an entry, or what the member owed.
use Rattle.std.proofs.Common.{◌≡◌, ℕ, ℤ, ◌≤◌, ◌+◌, Bool, true, false, List, [], ◌∷◌, Option, Some, None, refl, ap, subst, arith}
use Rattle.std.proofs.lemmas.Option.{none-some, same_Some}
use Rattle.std.specs.Prelude.{sum_by, is_some, slice_get, ◌==◌, if◌then◌else◌}
use Rattle.replica_core.specs.declared.events.Event.{Event}
use Rattle.replica_core.specs.declared.events.Event.TheVariants as event
use Rattle.replica_core.specs.declared.refusals.Refusal.{Refusal}
use Rattle.replica_core.specs.declared.refusals.Refusal.TheVariants as refusal
use Rattle.replica_model.specs.declared.events.ReplicaEvent.{ReplicaEvent}
use Rattle.replica_model.specs.declared.events.ReplicaEvent.TheVariants as replica_event
use Rattle.replica_model.specs.Rows.{FullReplica, row, row_answer}
use Rattle.member_core.specs.declared.effects.Effect.{Effect}
use Rattle.member_core.specs.declared.effects.SetupAnswer.{SetupAnswer}
use Rattle.member_core.specs.declared.effects.SetupAnswer.TheVariants as answer
use Rattle.member_core.specs.declared.effects.Upward.TheVariants as upward
use Rattle.member_core.specs.declared.inputs.FromBelow.{FromBelow}
use Rattle.member_core.specs.declared.inputs.FromBelow.TheVariants as below
use Rattle.member_core.specs.declared.member.Mirror.TheVariants as mirror
use Rattle.member_core.specs.Acks.{is_success, failures, begins_with_bad_sum, is_read, with_own, ack_of}
use Rattle.replica_core.specs.declared.ack_queue.PendingPacket.{PendingPacket}
use Rattle.replica_core.specs.Transitions.{is_written_by}
use Rattle.hd_base.specs.declared.states.Status.{Status}
use Rattle.hd_base.specs.declared.states.Status.TheVariants as status
use Rattle.member_core.specs.declared.effects.Shuts.TheVariants as shuts
use Rattle.member_core.specs.declared.effects.Upward.{Upward}
use Rattle.member_core.specs.declared.member.Mirror.{Mirror}
use Rattle.member_core.specs.declared.turns.Booked.{Booked}
use Rattle.member_core.specs.declared.turns.Booked.TheVariants as booked
use Rattle.member_core.specs.declared.turns.Side.{Side}
use Rattle.member_core.specs.declared.turns.Side.TheVariants as side
use Rattle.member_core.specs.declared.turns.Turn.{Turn}
use Rattle.member_core.specs.Members.{MemberState, is_waiting, turn_of, no_effect, sending, shut_both, closed_by, cut_off, refused_turn, settled, bad_turn, partial_turn, fail_turn, good_turn, give_up_turn, quiet_turn, patient_turn, ready_at, accept_turn, setup_turn, ack_turn, pass_turn, failed_turn, spoiled_turn, stream_turn, up_at, up_turn, named_bad}
use Rattle.member_core.specs.Steps.{Step, step, faulted_step, with_replica, replica_after, booked_as, oldest_at, ready_turn_at}
use Rattle.world.specs.Parts.{FullMember}
use Rattle.world.specs.Nodes.{sent_up}
use Rattle.world_settling.specs.Traffic.{up_weight, owed, member_weight, entries_by}
use Rattle.world_settling.proofs.Rows.{other-calm, ack-pays}

-- What a step makes is less than what it takes away and what was paid; it sends nothing on.
pub record Balances (c : ℕ) (m : FullMember) (r : FullReplica) (s : Step) (paid : ℕ) : Type 0 where
  pub is : sum_by up_weight (sent_up m.fields s.effect.sends) + member_weight s.member + entries_by c s.replica.known + 1
      ≤ member_weight m.state + entries_by c r.known + paid
  pub forwards : s.effect.forwards ≡ false

-- WEIGHTS OF MEMBERS

weighs : (m : MemberState) → m.responds ≡ true → member_weight m ≡ 1 + owed (is_waiting m.mirror) + owed (is_some m.bad)
weighs m e = rw e refl

quieter : (m : MemberState) (x : Mirror) → owed (is_waiting x) ≤ owed (is_waiting m.mirror) → member_weight (record m { mirror = x }) ≤ member_weight m
quieter m x l = at m.responds
  where
    at : (b : Bool) → (if b then 1 + owed (is_waiting x) + owed (is_some m.bad) else 0) ≤ (if b then 1 + owed (is_waiting m.mirror) + owed (is_some m.bad) else 0)
    at true = omega (arith, l)
    at false = omega arith

closed-quieter : (over : Bool) (m : MemberState) (x : Mirror) → owed (is_waiting x) ≤ owed (is_waiting m.mirror)
    → member_weight (closed_by (if over then shuts.Both else shuts.Nothing) side.Responder (record m { mirror = x })) ≤ member_weight m
closed-quieter true m x l = omega arith
closed-quieter false m x l = quieter m x l

-- a book call that isn't a packet and is refused cuts the member off
pub refused-cut : (m : MemberState) (a : Side) (e : Event) (x : Mirror) (f : Effect) (y : Refusal)
    → refused_turn m (turn_of a (Some (replica_event.Other e)) x f) y ≡ cut_off m (turn_of a (Some (replica_event.Other e)) x f)
refused-cut m z e x f refusal.NoReplica = refl
refused-cut m z e x f refusal.Exists = refl
refused-cut m z e x f (refusal.WrongState a) = refl
refused-cut m z e x f (refusal.Stale a b c) = refl
refused-cut m z e x f (refusal.LengthOut a b c d) = refl
refused-cut m z e x f refusal.NotWriter = refl
refused-cut m z e x f (refusal.Gap a b) = refl
refused-cut m z e x f (refusal.BadSum a) = refl
refused-cut m z e x f (refusal.Piece a) = refl
refused-cut m z e x f refusal.Broken = refl
refused-cut m z e x f (refusal.RecoveryHeld a) = refl
refused-cut m z e x f (refusal.Seqno a b) = refl
refused-cut m z e x f (refusal.OutOfRange a) = refl

-- ACKS

-- A turn that books an ack and sends something up: the entry pays, or the member shuts.
pub ack-balances : (c : ℕ) (m : FullMember) (r : FullReplica) (q : ℤ) (g : Bool) (x : Mirror) (u : Upward) (over : Bool) (paid : ℕ) → m.state.responds ≡ true → m.state.conn.0 ≡ c
    → owed (is_waiting x) ≤ owed (is_waiting m.state.mirror)
    → Balances c m r (step m.state r (turn_of side.Responder (Some (replica_event.Other (event.Ack m.state.conn q g))) x (sending u over))) paid
ack-balances c m r q g x u over paid responds is l = by-booked (booked_as (row_answer r call)) (subst (λ (i : ℕ). booked_as (row_answer r call) ≡ booked.Taken → entries_by i (row r call).known + 3 ≤ entries_by i r.known) is (ack-pays r.known m.state.conn q g))
  where
    call : ReplicaEvent
    call = replica_event.Other (event.Ack m.state.conn q g)

    turn : Turn
    turn = turn_of side.Responder (Some (replica_event.Other (event.Ack m.state.conn q g))) x (sending u over)

    cut : Balances c m r (with_replica (row r (replica_event.Other (event.Ack m.state.conn q g))) (record m.state { responds = false }, shut_both)) paid
    cut = record { is = omega (arith, other-calm c r.known (event.Ack m.state.conn q g) refl, weighs m.state responds); forwards = refl }

    by-booked : (b : Booked) → (b ≡ booked.Taken → entries_by c (row r (replica_event.Other (event.Ack m.state.conn q g))).known + 3 ≤ entries_by c r.known)
        → Balances c m r (with_replica (row r (replica_event.Other (event.Ack m.state.conn q g))) (settled m.state (turn_of side.Responder (Some (replica_event.Other (event.Ack m.state.conn q g))) x (sending u over)) b)) paid
    by-booked booked.Taken p = record { is = omega (arith, p refl, closed-quieter over m.state x l); forwards = refl }
    by-booked (booked.Refused y) p = rw (refused-cut m.state side.Responder (event.Ack m.state.conn q g) x (sending u over) y) cut
    by-booked booked.Failed p = cut

-- SHUTS

-- A turn that books the end of the connection, tells what was owed, and shuts.
pub telling-balances : (c : ℕ) (m : FullMember) (r : FullReplica) (x : Mirror) (u : Upward) (paid : ℕ) → m.state.responds ≡ true
    → 2 ≤ owed (is_waiting m.state.mirror) + owed (is_some m.state.bad)
    → Balances c m r (step m.state r (turn_of side.Responder (Some (replica_event.Other (event.Ended m.state.conn))) x (sending u true))) paid
telling-balances c m r x u paid responds l = by-booked (booked_as (row_answer r (replica_event.Other (event.Ended m.state.conn))))
  where
    calm : entries_by c (row r (replica_event.Other (event.Ended m.state.conn))).known ≤ entries_by c r.known
    calm = other-calm c r.known (event.Ended m.state.conn) refl

    by-booked : (b : Booked) → Balances c m r (with_replica (row r (replica_event.Other (event.Ended m.state.conn)))
        (settled m.state (turn_of side.Responder (Some (replica_event.Other (event.Ended m.state.conn))) x (sending u true)) b)) paid
    by-booked booked.Taken = record { is = omega (arith, calm, l, weighs m.state responds); forwards = refl }
    by-booked (booked.Refused y) = rw (refused-cut m.state side.Responder (event.Ended m.state.conn) x (sending u true) y) (record { is = omega (arith, calm, weighs m.state responds); forwards = refl })
    by-booked booked.Failed = record { is = omega (arith, calm, weighs m.state responds); forwards = refl }

-- A turn without a book call that sends nothing and shuts.
pub shutting-balances : (c : ℕ) (m : FullMember) (r : FullReplica) (x : Mirror) (paid : ℕ) → m.state.responds ≡ true
    → Balances c m r (step m.state r (turn_of side.Responder None x shut_both)) paid
shutting-balances c m r x paid responds = record { is = omega (arith, weighs m.state responds); forwards = refl }

-- A turn that books the end of the connection, sends nothing and shuts.
pub ended-balances : (c : ℕ) (m : FullMember) (r : FullReplica) (x : Mirror) (paid : ℕ) → m.state.responds ≡ true
    → Balances c m r (step m.state r (turn_of side.Responder (Some (replica_event.Other (event.Ended m.state.conn))) x shut_both)) paid
ended-balances c m r x paid responds = by-booked (booked_as (row_answer r (replica_event.Other (event.Ended m.state.conn))))
  where
    shut : (e : Effect) → Balances c m r (with_replica (row r (replica_event.Other (event.Ended m.state.conn))) (record m.state { mirror = x; responds = false }, shut_both)) paid
    shut e = record { is = omega (arith, other-calm c r.known (event.Ended m.state.conn) refl, weighs m.state responds); forwards = refl }

    cut : Balances c m r (with_replica (row r (replica_event.Other (event.Ended m.state.conn))) (record m.state { responds = false }, shut_both)) paid
    cut = record { is = omega (arith, other-calm c r.known (event.Ended m.state.conn) refl, weighs m.state responds); forwards = refl }

    by-booked : (b : Booked) → Balances c m r (with_replica (row r (replica_event.Other (event.Ended m.state.conn)))
        (settled m.state (turn_of side.Responder (Some (replica_event.Other (event.Ended m.state.conn))) x shut_both) b)) paid
    by-booked booked.Taken = shut shut_both
    by-booked (booked.Refused y) = rw (refused-cut m.state side.Responder (event.Ended m.state.conn) x shut_both y) cut
    by-booked booked.Failed = cut

-- The setup is answered: the answer was owed.
pub accept-balances : (c : ℕ) (m : FullMember) (r : FullReplica) (u : Upward) (over : Bool) (paid : ℕ) → m.state.responds ≡ true → is_waiting m.state.mirror ≡ true → 1 ≤ paid
    → Balances c m r (step m.state r (turn_of side.Responder None mirror.Open (sending u over))) paid
accept-balances c m r u true paid responds w p = let o = ap owed w in record { is = omega (arith, weighs m.state responds, o, p); forwards = refl }
accept-balances c m r u false paid responds w p =
    let o = ap owed w in
    let n = weighs (record m.state { mirror = mirror.Open }) responds in
    record { is = omega (arith, weighs m.state responds, n, o, p); forwards = refl }

-- The mirror counts as ended.
pub lone-balances : (c : ℕ) (m : FullMember) (r : FullReplica) (paid : ℕ) → 1 ≤ paid → Balances c m r (step m.state r (turn_of side.Responder None mirror.Ended no_effect)) paid
lone-balances c m r paid p = record { is = omega (arith, p, quieter m.state mirror.Ended (omega arith)); forwards = refl }

-- a failed call on files
pub fault-balances : (c : ℕ) (m : FullMember) (r : FullReplica) (t : Turn) (paid : ℕ) → m.state.responds ≡ true → t.side ≡ side.Responder → Balances c m r (faulted_step m.state r t) paid
fault-balances c m r t paid responds s = rw s (record { is = omega (arith, other-calm c r.known event.FileFault refl, weighs m.state responds); forwards = refl })

-- WHAT A MEMBER DOES WITHOUT A MESSAGE

-- a turn of this side, whose step makes less than it takes away
pub record Ready (c : ℕ) (m : FullMember) (r : FullReplica) (paid : ℕ) (t : Turn) : Type 0 where
  pub side : t.side ≡ side.Responder
  pub calm : (i : ℕ) → entries_by i (replica_after r t.call).known ≤ entries_by i r.known
  pub balances : Balances c m r (step m.state r t) paid

fail-ready : (c : ℕ) (m : FullMember) (r : FullReplica) (a : SetupAnswer) (paid : ℕ) → m.state.responds ≡ true → is_waiting m.state.mirror ≡ true → Ready c m r paid (fail_turn m.state a)
fail-ready c m r a paid responds w = let o = ap owed w in record { side = refl; calm = λ i. other-calm i r.known (event.Ended m.state.conn) refl; balances = telling-balances c m r mirror.Ended (upward.Answer a) paid responds (omega (arith, o)) }

good-ready : (c : ℕ) (m : FullMember) (r : FullReplica) (e : PendingPacket) (replies : List Status) (paid : ℕ) → m.state.responds ≡ true → m.state.conn.0 ≡ c
    → Ready c m r paid (good_turn m.state e replies)
good-ready c m r e replies paid responds is =
    record { side = refl; calm = λ i. other-calm i r.known (event.Ack m.state.conn e.seqno true) refl; balances = ack-balances c m r e.seqno true m.state.mirror (upward.Ack (ack_of e.seqno replies)) e.last paid responds is (omega arith) }

give-up-ready : (c : ℕ) (m : FullMember) (r : FullReplica) (e : PendingPacket) (paid : ℕ) → m.state.responds ≡ true → m.state.conn.0 ≡ c → Ready c m r paid (give_up_turn m.state e)
give-up-ready c m r e paid responds is =
    record { side = refl; calm = λ i. other-calm i r.known (event.Ack m.state.conn e.seqno false) refl; balances = ack-balances c m r e.seqno false mirror.Ended (upward.Ack (ack_of e.seqno (status.Success ∷ status.Error ∷ []))) true paid responds is (omega arith) }

bad-ready : (c : ℕ) (m : FullMember) (r : FullReplica) (q : ℤ) (paid : ℕ) → m.state.responds ≡ true → m.state.bad ≡ Some q → Ready c m r paid (bad_turn m.state q)
bad-ready c m r q paid responds e =
    let o = ap (λ (b : Option ℤ). owed (is_some b)) e in
    record { side = refl; calm = λ i. other-calm i r.known (event.Ended m.state.conn) refl; balances = telling-balances c m r m.state.mirror (upward.Ack (ack_of q (status.ErrorChecksum ∷ []))) paid responds (omega (arith, o)) }

ready-is : (c : ℕ) (m : FullMember) (r : FullReplica) (paid : ℕ) (u t : Turn) → Some u ≡ Some t → Ready c m r paid u → Ready c m r paid t
ready-is c m r paid u t e h = subst (λ (y : Turn). Ready c m r paid y) (same_Some u t e) h

quiet-ready : (c : ℕ) (m : FullMember) (r : FullReplica) (o : Option ℤ) (writes : Bool) (t : Turn) → m.state.responds ≡ true → m.state.bad ≡ o → quiet_turn m.state o writes ≡ Some t → Ready c m r 0 t
quiet-ready c m r (Some q) writes t responds b e = ready-is c m r 0 (bad_turn m.state q) t e (bad-ready c m r q 0 responds b)
quiet-ready c m r None true t responds b e = absurd (none-some t e)
quiet-ready c m r None false t responds b e =
    ready-is c m r 0 (turn_of side.Responder None m.state.mirror shut_both) t e (record { side = refl; calm = λ i. omega arith; balances = shutting-balances c m r m.state.mirror 0 responds })

patient-ready : (c : ℕ) (m : FullMember) (r : FullReplica) (o : Option ℤ) (t : Turn) → m.state.responds ≡ true → m.state.bad ≡ o → patient_turn m.state o ≡ Some t → Ready c m r 0 t
patient-ready c m r (Some q) t responds b e = ready-is c m r 0 (bad_turn m.state q) t e (bad-ready c m r q 0 responds b)
patient-ready c m r None t responds b e = absurd (none-some t e)

ready-as : (c : ℕ) (m : FullMember) (r : FullReplica) (x : Mirror) (o : Option PendingPacket) (writes : Bool) (t : Turn) → m.state.responds ≡ true → m.state.conn.0 ≡ c → m.state.mirror ≡ x
    → ready_at x m.state o writes ≡ Some t → Ready c m r 0 t
ready-as c m r mirror.Asked o writes t responds is k e = absurd (none-some t e)
ready-as c m r mirror.Unreachable o writes t responds is k e =
    ready-is c m r 0 (fail_turn m.state answer.Unreached) t e (fail-ready c m r answer.Unreached 0 responds (ap is_waiting k))
ready-as c m r mirror.Nobody (Some p) writes t responds is k e =
    ready-is c m r 0 (good_turn m.state p (status.Success ∷ [])) t e (good-ready c m r p (status.Success ∷ []) 0 responds is)
ready-as c m r mirror.Nobody None writes t responds is k e = quiet-ready c m r m.state.bad writes t responds refl e
ready-as c m r mirror.Open (Some p) writes t responds is k e = absurd (none-some t e)
ready-as c m r mirror.Open None writes t responds is k e = patient-ready c m r m.state.bad t responds refl e
ready-as c m r mirror.Ended (Some p) writes t responds is k e = ready-is c m r 0 (give_up_turn m.state p) t e (give-up-ready c m r p 0 responds is)
ready-as c m r mirror.Ended None writes t responds is k e = quiet-ready c m r m.state.bad writes t responds refl e

-- A turn of a member that acts without a message.
pub record Acts (c : ℕ) (m : FullMember) (r : FullReplica) (t : Turn) : Type 0 where
  pub responds : m.state.responds ≡ true
  pub ready : Ready c m r 0 t

pub ready-acts : (c : ℕ) (m : FullMember) (r : FullReplica) (t : Turn) → m.state.conn.0 ≡ c → ready_turn_at m.state r ≡ Some t → Acts c m r t
ready-acts c m r t is e = at m.state.responds refl e
  where
    at : (b : Bool) → m.state.responds ≡ b → (if b then ready_at m.state.mirror m.state (slice_get r.known.pending 0) (is_written_by r.known.stream m.state.conn) else None) ≡ Some t → Acts c m r t
    at true q h = record { responds = q; ready = ready-as c m r m.state.mirror (slice_get r.known.pending 0) (is_written_by r.known.stream m.state.conn) t q is refl h }
    at false q h = absurd (none-some t h)

-- WHAT A MEMBER TAKES FROM ITS MIRROR

failed-ready : (c : ℕ) (m : FullMember) (r : FullReplica) (e : PendingPacket) (replies : List Status) (paid : ℕ) → m.state.responds ≡ true → m.state.conn.0 ≡ c
    → Ready c m r paid (failed_turn m.state e replies)
failed-ready c m r e replies paid responds is = at (begins_with_bad_sum replies)
  where
    at : (b : Bool) → Ready c m r paid (if b then spoiled_turn m.state else partial_turn m.state e (with_own replies))
    at true = record { side = refl; calm = λ i. other-calm i r.known (event.Ended m.state.conn) refl; balances = ended-balances c m r m.state.mirror paid responds }
    at false = record { side = refl; calm = λ i. other-calm i r.known (event.Ack m.state.conn e.seqno false) refl; balances = ack-balances c m r e.seqno false m.state.mirror (upward.Ack (ack_of e.seqno (with_own replies))) false paid responds is (omega arith) }

pass-ready : (c : ℕ) (m : FullMember) (r : FullReplica) (e : PendingPacket) (replies : List Status) (paid : ℕ) → m.state.responds ≡ true → m.state.conn.0 ≡ c
    → Ready c m r paid (pass_turn m.state e replies)
pass-ready c m r e replies paid responds is = at (failures replies == 0)
  where
    at : (b : Bool) → Ready c m r paid (if b then good_turn m.state e (with_own replies) else failed_turn m.state e replies)
    at true = good-ready c m r e (with_own replies) paid responds is
    at false = failed-ready c m r e replies paid responds is

ack-ready : (c : ℕ) (m : FullMember) (r : FullReplica) (e : PendingPacket) (taken : FromBelow) (paid : ℕ) → m.state.responds ≡ true → m.state.conn.0 ≡ c
    → Ready c m r paid (ack_turn m.state e taken)
ack-ready c m r e (below.Ack a) paid responds is = at (is_read m.state.below e.seqno a)
  where
    at : (b : Bool) → Ready c m r paid (if b then pass_turn m.state e a.replies else give_up_turn m.state e)
    at true = pass-ready c m r e a.replies paid responds is
    at false = give-up-ready c m r e paid responds is
ack-ready c m r e (below.Response a) paid responds is = give-up-ready c m r e paid responds is
ack-ready c m r e below.Unreadable paid responds is = give-up-ready c m r e paid responds is
ack-ready c m r e below.End paid responds is = give-up-ready c m r e paid responds is

stream-ready : (c : ℕ) (m : FullMember) (r : FullReplica) (o : Option PendingPacket) (taken : FromBelow) (paid : ℕ) → m.state.responds ≡ true → m.state.conn.0 ≡ c → 1 ≤ paid
    → Ready c m r paid (stream_turn m.state o taken)
stream-ready c m r None taken paid responds is p = record { side = refl; calm = λ i. omega arith; balances = lone-balances c m r paid p }
stream-ready c m r (Some e) taken paid responds is p = ack-ready c m r e taken paid responds is

setup-ready : (c : ℕ) (m : FullMember) (r : FullReplica) (taken : FromBelow) (paid : ℕ) → m.state.responds ≡ true → is_waiting m.state.mirror ≡ true → 1 ≤ paid
    → Ready c m r paid (setup_turn m.state taken)
setup-ready c m r (below.Response a) paid responds w p = at (is_success a.status)
  where
    at : (b : Bool) → Ready c m r paid (if b then accept_turn m.state else fail_turn m.state (named_bad a.first_bad))
    at true = record { side = refl; calm = λ i. omega arith; balances = accept-balances c m r (upward.Answer answer.Success) m.state.closes paid responds w p }
    at false = fail-ready c m r (named_bad a.first_bad) paid responds w
setup-ready c m r (below.Ack a) paid responds w p = fail-ready c m r answer.Unreached paid responds w
setup-ready c m r below.Unreadable paid responds w p = fail-ready c m r answer.Unreached paid responds w
setup-ready c m r below.End paid responds w p = fail-ready c m r answer.Unreached paid responds w

up-as : (c : ℕ) (m : FullMember) (r : FullReplica) (x : Mirror) (o : Option PendingPacket) (taken : FromBelow) (paid : ℕ) → m.state.responds ≡ true → m.state.conn.0 ≡ c → m.state.mirror ≡ x → 1 ≤ paid
    → Ready c m r paid (up_at x m.state o taken)
up-as c m r mirror.Asked o taken paid responds is k p = setup-ready c m r taken paid responds (ap is_waiting k) p
up-as c m r mirror.Open o taken paid responds is k p = stream-ready c m r o taken paid responds is p
up-as c m r mirror.Nobody o taken paid responds is k p = record { side = refl; calm = λ i. omega arith; balances = record { is = omega (arith, p); forwards = refl } }
up-as c m r mirror.Unreachable o taken paid responds is k p = record { side = refl; calm = λ i. omega arith; balances = record { is = omega (arith, p); forwards = refl } }
up-as c m r mirror.Ended o taken paid responds is k p = record { side = refl; calm = λ i. omega arith; balances = record { is = omega (arith, p); forwards = refl } }

pub up-ready : (c : ℕ) (m : FullMember) (r : FullReplica) (taken : FromBelow) (paid : ℕ) → m.state.responds ≡ true → m.state.conn.0 ≡ c → 1 ≤ paid
    → Ready c m r paid (up_turn m.state (oldest_at r) taken)
up-ready c m r taken paid responds is p = up-as c m r m.state.mirror (oldest_at r) taken paid responds is refl p
