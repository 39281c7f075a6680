-- The turns of a member's rules: of a packet nothing goes up, and it goes on to a mirror; the others book an ack, the end or nothing. None gives the member a mirror that it hasn't, or takes it.
use Rattle.std.proofs.Common.{◌≡◌, ◌==◌, ◌<◌, ℕ, ℤ, Bool, true, false, if◌then◌else◌, List, Option, Some, None, IsSome, option_map, refl, subst, arith}
use Rattle.hd_base.specs.declared.ends.Conn.{Conn}
use Rattle.hd_base.specs.declared.states.Status.{Status}
use Rattle.replica_core.specs.declared.ack_queue.PendingPacket.{PendingPacket}
use Rattle.replica_core.specs.declared.ack_queue.TheConstants.{MAX_PENDING}
use Rattle.replica_core.specs.declared.refusals.Refusal.{Refusal}
use Rattle.replica_core.specs.declared.refusals.Refusal.TheVariants as refusal
use Rattle.replica_core.specs.declared.records.ReplicaRecord.{ReplicaRecord}
use Rattle.pipe_setup.specs.ReplicaModel.ReplicaEvent.{ReplicaEvent}
use Rattle.pipe_setup.specs.ReplicaModel.ReplicaEvent.TheVariants as replica_event
use Rattle.pipe_setup.specs.MemberCore.Effect.{Effect}
use Rattle.pipe_setup.specs.MemberCore.Shuts.{Shuts}
use Rattle.pipe_setup.specs.MemberCore.Shuts.TheVariants as shuts
use Rattle.pipe_setup.specs.MemberCore.FromAbove.{FromAbove}
use Rattle.pipe_setup.specs.MemberCore.FromAbove.TheVariants as above
use Rattle.pipe_setup.specs.MemberCore.FromBelow.{FromBelow}
use Rattle.pipe_setup.specs.MemberCore.FromBelow.TheVariants as below
use Rattle.pipe_setup.specs.MemberCore.Mirror.{Mirror}
use Rattle.pipe_setup.specs.MemberCore.Mirror.TheVariants as mirror
use Rattle.pipe_setup.specs.MemberCore.Booked.{Booked}
use Rattle.pipe_setup.specs.MemberCore.Booked.TheVariants as booked
use Rattle.pipe_setup.specs.MemberCore.Side.{Side}
use Rattle.pipe_setup.specs.MemberCore.Side.TheVariants as side
use Rattle.pipe_setup.specs.MemberCore.Turn.{Turn}
use Rattle.pipe_setup.specs.MemberCore.Acks.{is_success, failures, begins_with_bad_sum, is_read, with_own}
use Rattle.pipe_setup.specs.MemberCore.Members.{MemberState, has_mirror, closed, closed_by, settled, refused_turn, bad_sum, down_turn, setup_turn, pass_turn, failed_turn, ack_turn, stream_turn, up_at, up_turn, idle_turn, quiet_turn, patient_turn, ready_at, ready_turn_by}
use Rattle.pipe_turns.specs.Turning.{CanBook}
use Rattle.pipe_member.specs.Stepping.{IsOfRules}

-- there is a mirror by the rules
abbrev pub Has : Mirror → Type 0
Has mi = has_mirror mi ≡ true

-- A turn of the rules of a member that holds this end to its mirror, or none.
pub record IsRuled {I O : Type 0} (m : MemberState) (end : Option (Conn I O)) (t : Turn) : Type 0 where
  pub rules : IsOfRules t.call t.effect end
  pub keeps : Has m.mirror → Has t.mirror

-- A turn that books no packet, and sends none on.
pub record IsQuiet (m : MemberState) (t : Turn) : Type 0 where
  pub can : (n : ℕ) → CanBook n t.call
  pub still : t.effect.forwards ≡ false
  pub keeps : Has m.mirror → Has t.mirror

less_self : (n : ℕ) → n < n → ⊥
less_self n h = omega arith

rules_of : {I O : Type 0} (call : Option ReplicaEvent) (e : Effect) (end : Option (Conn I O)) → ((n : ℕ) → CanBook n call) → IsOfRules call e end
rules_of None e end can = tt
rules_of (Some (replica_event.Packet conn p)) e end can = absurd (less_self MAX_PENDING (can MAX_PENDING).0)
rules_of (Some (replica_event.Other x)) e end can = can 0

ruled : {I O : Type 0} (m : MemberState) (end : Option (Conn I O)) (t : Turn) → IsQuiet m t → IsRuled m end t
ruled m end t q = record { rules = rules_of t.call t.effect end q.can; keeps = q.keeps }

-- ---- from above

pub down_ruled : {I O : Type 0} (m : MemberState) (end : Option (Conn I O)) (x : FromAbove) → (IsSome end → Has m.mirror) → IsRuled m end (down_turn m x)
down_ruled m end (above.Packet p) h = record { rules = (refl, h); keeps = λ k. k }
down_ruled m end above.Unreadable h = record { rules = tt; keeps = λ k. k }
down_ruled m end above.End h = record { rules = tt; keeps = λ k. k }

-- ---- from the mirror

either : (m : MemberState) (b : Bool) (x y : Turn) → IsQuiet m x → IsQuiet m y → IsQuiet m (if b then x else y)
either m true x y h k = h
either m false x y h k = k

passes : (m : MemberState) (e : PendingPacket) (replies : List Status) → IsQuiet m (pass_turn m e replies)
passes m e replies =
    either m (failures replies == 0) _ _ (record { can = λ n. tt; still = refl; keeps = λ k. k })
    (either m (begins_with_bad_sum replies) _ _ (record { can = λ n. tt; still = refl; keeps = λ k. k }) (record { can = λ n. tt; still = refl; keeps = λ k. k }))

acks : (m : MemberState) (e : PendingPacket) (taken : FromBelow) → IsQuiet m (ack_turn m e taken)
acks m e (below.Ack a) = either m (is_read m.below e.seqno a) _ _ (passes m e a.replies) (record { can = λ n. tt; still = refl; keeps = λ k. refl })
acks m e (below.Response r) = record { can = λ n. tt; still = refl; keeps = λ k. refl }
acks m e below.Unreadable = record { can = λ n. tt; still = refl; keeps = λ k. refl }
acks m e below.End = record { can = λ n. tt; still = refl; keeps = λ k. refl }

sets_up : (m : MemberState) (taken : FromBelow) → IsQuiet m (setup_turn m taken)
sets_up m (below.Response r) = either m (is_success r.status) _ _ (record { can = λ n. tt; still = refl; keeps = λ k. refl }) (record { can = λ n. tt; still = refl; keeps = λ k. refl })
sets_up m (below.Ack a) = record { can = λ n. tt; still = refl; keeps = λ k. refl }
sets_up m below.Unreadable = record { can = λ n. tt; still = refl; keeps = λ k. refl }
sets_up m below.End = record { can = λ n. tt; still = refl; keeps = λ k. refl }

streams : (m : MemberState) (oldest : Option PendingPacket) (taken : FromBelow) → IsQuiet m (stream_turn m oldest taken)
streams m None taken = record { can = λ n. tt; still = refl; keeps = λ k. refl }
streams m (Some e) taken = acks m e taken

pub ups : (mi : Mirror) (m : MemberState) (oldest : Option PendingPacket) (taken : FromBelow) → IsQuiet m (up_at mi m oldest taken)
ups mirror.Asked m oldest taken = sets_up m taken
ups mirror.Open m oldest taken = streams m oldest taken
ups mirror.Nobody m oldest taken = record { can = λ n. tt; still = refl; keeps = λ k. k }
ups mirror.Unreachable m oldest taken = record { can = λ n. tt; still = refl; keeps = λ k. k }
ups mirror.Ended m oldest taken = record { can = λ n. tt; still = refl; keeps = λ k. k }

pub up_ruled : {I O : Type 0} (m : MemberState) (end : Option (Conn I O)) (oldest : Option PendingPacket) (taken : FromBelow) → IsRuled m end (up_turn m oldest taken)
up_ruled m end oldest taken = ruled m end (up_turn m oldest taken) (ups m.mirror m oldest taken)

-- ---- without a message

some_turn : (x t : Turn) → Some x ≡ Some t → x ≡ t
some_turn x t e = cc

here : (m : MemberState) (x t : Turn) → IsQuiet m x → Some x ≡ Some t → IsQuiet m t
here m x t q is = subst (IsQuiet m) (some_turn x t is) q

idles : (m : MemberState) (writes : Bool) (t : Turn) → idle_turn m writes ≡ Some t → IsQuiet m t
idles m true t is = cc
idles m false t is = here m _ t (record { can = λ n. tt; still = refl; keeps = λ k. k }) is

quiets : (m : MemberState) (kept : Option ℤ) (writes : Bool) (t : Turn) → quiet_turn m kept writes ≡ Some t → IsQuiet m t
quiets m (Some seqno) writes t is = here m _ t (record { can = λ n. tt; still = refl; keeps = λ k. k }) is
quiets m None writes t is = idles m writes t is

patients : (m : MemberState) (kept : Option ℤ) (t : Turn) → patient_turn m kept ≡ Some t → IsQuiet m t
patients m (Some seqno) t is = here m _ t (record { can = λ n. tt; still = refl; keeps = λ k. k }) is
patients m None t is = cc

pub readies : (mi : Mirror) (m : MemberState) (oldest : Option PendingPacket) (writes : Bool) (t : Turn) → ready_at mi m oldest writes ≡ Some t → IsQuiet m t
readies mirror.Asked m oldest writes t is = cc
readies mirror.Unreachable m oldest writes t is = here m _ t (record { can = λ n. tt; still = refl; keeps = λ k. refl }) is
readies mirror.Nobody m (Some e) writes t is = here m _ t (record { can = λ n. tt; still = refl; keeps = λ k. k }) is
readies mirror.Nobody m None writes t is = quiets m m.bad writes t is
readies mirror.Open m (Some e) writes t is = cc
readies mirror.Open m None writes t is = patients m m.bad t is
readies mirror.Ended m (Some e) writes t is = here m _ t (record { can = λ n. tt; still = refl; keeps = λ k. refl }) is
readies mirror.Ended m None writes t is = quiets m m.bad writes t is

pub acting : (b : Bool) (x : Option Turn) (t : Turn) → (if b then x else None) ≡ Some t → x ≡ Some t
acting true x t is = is
acting false x t is = cc

pub ready_ruled : {I O : Type 0} (m : MemberState) (end : Option (Conn I O)) (r : ReplicaRecord) (t : Turn) → ready_turn_by m r ≡ Some t → IsRuled m end t
ready_ruled m end r t is = ruled m end t (readies m.mirror m _ _ t (acting m.responds _ t is))

-- ---- what follows

closed_has : (at : Side) (m : MemberState) → Has m.mirror → Has (closed at m).mirror
closed_has side.Receiver m h = h
closed_has side.Responder m h = h

closed_by_has : (s : Shuts) (at : Side) (m : MemberState) → Has m.mirror → Has (closed_by s at m).mirror
closed_by_has shuts.Nothing at m h = h
closed_by_has shuts.Mirror at m h = closed_has at m h
closed_by_has shuts.Both at m h = closed_has at m h

bad_sum_has : (m : MemberState) (call : Option ReplicaEvent) (t : Turn) → Has m.mirror → Has (bad_sum m call t).0.mirror
bad_sum_has m None t h = closed_has t.side m h
bad_sum_has m (Some (replica_event.Packet conn p)) t h = h
bad_sum_has m (Some (replica_event.Other e)) t h = closed_has t.side m h

refused_has : (m : MemberState) (t : Turn) (why : Refusal) → Has m.mirror → Has (refused_turn m t why).0.mirror
refused_has m t (refusal.BadSum chunk) h = bad_sum_has m t.call t h
refused_has m t why h = closed_has t.side m h

pub settled_has : (m : MemberState) (t : Turn) (b : Booked) → (Has m.mirror → Has t.mirror) → Has m.mirror → Has (settled m t b).0.mirror
settled_has m t booked.Taken keeps h = closed_by_has t.effect.shuts t.side (record m { mirror = t.mirror }) (keeps h)
settled_has m t (booked.Refused why) keeps h = refused_has m t why h
settled_has m t booked.Failed keeps h = closed_has t.side m h
