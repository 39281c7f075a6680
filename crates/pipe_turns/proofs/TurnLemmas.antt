-- The turns of a member that take no packet book an ack, the end of the connection or nothing, and send listed statuses.
use Rattle.std.proofs.Common.{◌≡◌, ◌==◌, ◌<◌, ℕ, zero, suc, ℤ, Bool, true, false, if◌then◌else◌, List, [], ◌∷◌, All, Option, Some, None, length, subst, arith}
use Rattle.hd_base.specs.Wire.{IsStatus}
use Rattle.hd_base.specs.declared.states.Status.{Status}
use Rattle.hd_base.specs.declared.states.Status.TheVariants as status
use Rattle.packet_responder.specs.ReplicaCore.PendingPacket.{PendingPacket}
use Rattle.packet_responder.specs.ReplicaCore.ReplicaRecord.{ReplicaRecord}
use Rattle.block_receiver.specs.ReplicaModel.ReplicaEvent.{ReplicaEvent}
use Rattle.block_receiver.specs.ReplicaModel.ReplicaEvent.TheVariants as replica_event
use Rattle.block_receiver.specs.MemberCore.SetupAnswer.{SetupAnswer}
use Rattle.block_receiver.specs.MemberCore.FromBelow.{FromBelow}
use Rattle.block_receiver.specs.MemberCore.FromBelow.TheVariants as below
use Rattle.block_receiver.specs.MemberCore.Mirror.{Mirror}
use Rattle.block_receiver.specs.MemberCore.Mirror.TheVariants as mirror
use Rattle.block_receiver.specs.MemberCore.Turn.{Turn}
use Rattle.block_receiver.specs.MemberCore.Acks.{is_success, failures, begins_with_bad_sum, is_read, with_own}
use Rattle.block_receiver.specs.MemberCore.Members.{MemberState, accept_turn, fail_turn, named_bad, setup_turn, good_turn, give_up_turn, spoiled_turn, partial_turn, pass_turn, ack_turn, stream_turn, up_at, up_turn, bad_turn, idle_turn, quiet_turn, patient_turn, ready_at, ready_turn_by}
use Rattle.pipe_turns.specs.Turning.{CanBook, IsListed, IsSpelled}
use Rattle.pipe_turns.specs.Taking.{IsListedBelow}

pub record IsDoable (t : Turn) : Type 0 where
  pub can : (pending : ℕ) → CanBook pending t.call
  pub listed : IsListed t.effect.sends

-- ---- listed statuses

none_listed : All IsStatus []
none_listed k d h = let never : ⊥ = omega (arith, h) in absurd never

one_more : (s : Status) (replies : List Status) → IsStatus s → All IsStatus replies → All IsStatus (s ∷ replies)
one_more s replies is all zero d h = is
one_more s replies is all (suc k) d h = let less : k < length replies = omega (arith, h) in all k d less

-- ---- turns

either : (b : Bool) (x y : Turn) → IsDoable x → IsDoable y → IsDoable (if b then x else y)
either true x y h k = h
either false x y h k = k

good : (m : MemberState) (e : PendingPacket) (replies : List Status) → All IsStatus replies → IsDoable (good_turn m e replies)
good m e replies all = record { can = λ n. tt; listed = all }

partial : (m : MemberState) (e : PendingPacket) (replies : List Status) → All IsStatus replies → IsDoable (partial_turn m e replies)
partial m e replies all = record { can = λ n. tt; listed = all }

gives_up : (m : MemberState) (e : PendingPacket) → IsDoable (give_up_turn m e)
gives_up m e = record { can = λ n. tt; listed = one_more status.Success (status.Error ∷ []) tt (one_more status.Error [] tt none_listed) }

fails : (m : MemberState) (a : SetupAnswer) → IsDoable (fail_turn m a)
fails m a = record { can = λ n. tt; listed = tt }

accepts : (m : MemberState) → IsDoable (accept_turn m)
accepts m = record { can = λ n. tt; listed = tt }

spoiled : (m : MemberState) → IsDoable (spoiled_turn m)
spoiled m = record { can = λ n. tt; listed = tt }

bad : (m : MemberState) (seqno : ℤ) → IsDoable (bad_turn m seqno)
bad m seqno = record { can = λ n. tt; listed = one_more status.ErrorChecksum [] tt none_listed }

-- ---- what comes from the mirror

passes : (m : MemberState) (e : PendingPacket) (replies : List Status) → All IsStatus replies → IsDoable (pass_turn m e replies)
passes m e replies all =
    let own : All IsStatus (with_own replies) = one_more status.Success replies tt all in
    either (failures replies == 0) _ _ (good m e (with_own replies) own)
    (either (begins_with_bad_sum replies) _ _ (spoiled m) (partial m e (with_own replies) own))

acks : (m : MemberState) (e : PendingPacket) (taken : FromBelow) → IsListedBelow taken → IsDoable (ack_turn m e taken)
acks m e (below.Ack a) all = either (is_read m.below e.seqno a) _ _ (passes m e a.replies all) (gives_up m e)
acks m e (below.Response r) all = gives_up m e
acks m e below.Unreadable all = gives_up m e
acks m e below.End all = gives_up m e

sets_up : (m : MemberState) (taken : FromBelow) → IsDoable (setup_turn m taken)
sets_up m (below.Response r) = either (is_success r.status) _ _ (accepts m) (fails m (named_bad r.first_bad))
sets_up m (below.Ack a) = fails m _
sets_up m below.Unreadable = fails m _
sets_up m below.End = fails m _

streams : (m : MemberState) (oldest : Option PendingPacket) (taken : FromBelow) → IsListedBelow taken → IsDoable (stream_turn m oldest taken)
streams m None taken all = record { can = λ n. tt; listed = tt }
streams m (Some e) taken all = acks m e taken all

ups : (mi : Mirror) (m : MemberState) (oldest : Option PendingPacket) (taken : FromBelow) → IsListedBelow taken → IsDoable (up_at mi m oldest taken)
ups mirror.Asked m oldest taken all = sets_up m taken
ups mirror.Open m oldest taken all = streams m oldest taken all
ups mirror.Nobody m oldest taken all = record { can = λ n. tt; listed = tt }
ups mirror.Unreachable m oldest taken all = record { can = λ n. tt; listed = tt }
ups mirror.Ended m oldest taken all = record { can = λ n. tt; listed = tt }

pub up_doable : (m : MemberState) (oldest : Option PendingPacket) (taken : FromBelow) → IsListedBelow taken → IsDoable (up_turn m oldest taken)
up_doable m oldest taken all = ups m.mirror m oldest taken all

-- ---- what is due without a message

some_turn : (x t : Turn) → Some x ≡ Some t → x ≡ t
some_turn x t e = cc

idles : (m : MemberState) (writes : Bool) (t : Turn) → idle_turn m writes ≡ Some t → IsDoable t
idles m true t is = cc
idles m false t is = subst IsDoable (some_turn _ t is) (record { can = λ n. tt; listed = tt })

quiets : (m : MemberState) (kept : Option ℤ) (writes : Bool) (t : Turn) → quiet_turn m kept writes ≡ Some t → IsDoable t
quiets m (Some seqno) writes t is = subst IsDoable (some_turn _ t is) (bad m seqno)
quiets m None writes t is = idles m writes t is

patients : (m : MemberState) (kept : Option ℤ) (t : Turn) → patient_turn m kept ≡ Some t → IsDoable t
patients m (Some seqno) t is = subst IsDoable (some_turn _ t is) (bad m seqno)
patients m None t is = cc

readies : (mi : Mirror) (m : MemberState) (oldest : Option PendingPacket) (writes : Bool) (t : Turn) → ready_at mi m oldest writes ≡ Some t → IsDoable t
readies mirror.Asked m oldest writes t is = cc
readies mirror.Unreachable m oldest writes t is = subst IsDoable (some_turn _ t is) (fails m _)
readies mirror.Nobody m (Some e) writes t is = subst IsDoable (some_turn _ t is) (good m e (status.Success ∷ []) (one_more status.Success [] tt none_listed))
readies mirror.Nobody m None writes t is = quiets m m.bad writes t is
readies mirror.Open m (Some e) writes t is = cc
readies mirror.Open m None writes t is = patients m m.bad t is
readies mirror.Ended m (Some e) writes t is = subst IsDoable (some_turn _ t is) (gives_up m e)
readies mirror.Ended m None writes t is = quiets m m.bad writes t is

acting : (b : Bool) (x : Option Turn) (t : Turn) → (if b then x else None) ≡ Some t → x ≡ Some t
acting true x t is = is
acting false x t is = cc

pub ready_doable : (m : MemberState) (r : ReplicaRecord) (t : Turn) → ready_turn_by m r ≡ Some t → IsDoable t
ready_doable m r t is = readies m.mirror m _ _ t (acting m.responds _ t is)

-- ---- spellings

-- a turn of which no spelling of a packet is given
pub unspelled : (call : Option ReplicaEvent) → IsSpelled call None
unspelled None = tt
unspelled (Some (replica_event.Packet conn p)) = tt
unspelled (Some (replica_event.Other e)) = tt
