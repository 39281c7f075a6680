-- What a member sends, and what it has booked then.
use Rattle.std.proofs.Common.{◌≡◌, ◌==◌, ℕ, ℤ, Bool, true, false, if◌then◌else◌, List, [], ◌∷◌, Option, Some, None, IfSome, refl, ap, ◌∙◌, arith}
use Rattle.std.proofs.lemmas.Bool.Decides.{nat_tests}
use Rattle.hd_base.specs.declared.states.Status.{Status}
use Rattle.hd_base.specs.declared.states.Status.TheVariants as status
use Rattle.ack_codec.specs.declared.acks.Ack.{Ack}
use Rattle.replica_core.specs.declared.ack_queue.PendingPacket.{PendingPacket}
use Rattle.replica_core.specs.declared.refusals.Refusal.{Refusal}
use Rattle.replica_core.specs.declared.refusals.Refusal.TheVariants as refusal
use Rattle.replica_model.specs.declared.events.ReplicaEvent.{ReplicaEvent}
use Rattle.replica_model.specs.declared.events.ReplicaEvent.TheVariants as replica_event
use Rattle.member_core.specs.declared.effects.SetupAnswer.{SetupAnswer}
use Rattle.member_core.specs.declared.effects.SetupAnswer.TheVariants as answer
use Rattle.member_core.specs.declared.effects.Upward.TheVariants as upward
use Rattle.member_core.specs.declared.inputs.FromBelow.{FromBelow}
use Rattle.member_core.specs.declared.inputs.FromBelow.TheVariants as below
use Rattle.member_core.specs.declared.member.Mirror.{Mirror}
use Rattle.member_core.specs.declared.member.Mirror.TheVariants as mirror
use Rattle.member_core.specs.declared.turns.Turn.{Turn}
use Rattle.member_core.specs.Acks.{is_success, failures, is_read, begins_with_bad_sum, with_own, ack_of}
use Rattle.member_core.specs.Members.{MemberState, accept_turn, fail_turn, named_bad, setup_turn, good_turn, give_up_turn, spoiled_turn, partial_turn, failed_turn, pass_turn, ack_turn, up_at, bad_sum, refused_turn, ready_at, quiet_turn, patient_turn, idle_turn, bad_turn}
use Rattle.member_core.specs.Laws.{SendsSuccess, BooksGood, SuccessFromBelow, SuccessAtTheEnd, IsSilent, RefusedIsSilent}

-- SILENCE

silent_bad : (m : MemberState) (call : Option ReplicaEvent) (t : Turn) → IsSilent (bad_sum m call t).1
silent_bad m None t = record { forwards = refl; sends = refl }
silent_bad m (Some (replica_event.Packet conn p)) t = record { forwards = refl; sends = refl }
silent_bad m (Some (replica_event.Other e)) t = record { forwards = refl; sends = refl }

silent_refused : (m : MemberState) (t : Turn) (r : Refusal) → IsSilent (refused_turn m t r).1
silent_refused m t (refusal.BadSum chunk) = silent_bad m t.call t
silent_refused m t _ = record { forwards = refl; sends = refl }

pub refused_silent : RefusedIsSilent
refused_silent m t = (λ r. silent_refused m t r, record { forwards = refl; sends = refl })

-- SUCCESS

some_ack : (x a : Ack) → Some (upward.Ack x) ≡ Some (upward.Ack a) → x ≡ a
some_ack x a e = cc

not_zero : (n : ℕ) → (n == 0) ≡ false → n ≡ 0 → ⊥
not_zero n e z = grind (arith, nat_tests)

good_books : (m : MemberState) (e : PendingPacket) (replies : List Status) → BooksGood m (Some e) (good_turn m e replies)
good_books m e replies = record { packet = e; pending = refl; call = refl }

not_given_up : (m : MemberState) (e : PendingPacket) (a : Ack) → SendsSuccess (give_up_turn m e) a → ⊥
not_given_up m e a h =
    let same : ack_of e.seqno (status.Success ∷ status.Error ∷ []) ≡ a = some_ack _ a h.sends in
    not_zero (failures (status.Success ∷ status.Error ∷ [])) refl (ap (λ (x : Ack). failures x.replies) same ∙ h.succeeds)

not_bad : (m : MemberState) (seqno : ℤ) (a : Ack) → SendsSuccess (bad_turn m seqno) a → ⊥
not_bad m seqno a h =
    let same : ack_of seqno (status.ErrorChecksum ∷ []) ≡ a = some_ack _ a h.sends in
    not_zero (failures (status.ErrorChecksum ∷ [])) refl (ap (λ (x : Ack). failures x.replies) same ∙ h.succeeds)

not_failed : (m : MemberState) (e : PendingPacket) (replies : List Status) (a : Ack) (b : Bool) → (failures replies == 0) ≡ false
    → SendsSuccess (if b then spoiled_turn m else partial_turn m e (with_own replies)) a → ⊥
not_failed m e replies a true not h = let s : None ≡ Some (upward.Ack a) = h.sends in cc
not_failed m e replies a false not h =
    let same : ack_of e.seqno (with_own replies) ≡ a = some_ack _ a h.sends in
    not_zero (failures replies) not (ap (λ (x : Ack). failures x.replies) same ∙ h.succeeds)

passed_by : (m : MemberState) (e : PendingPacket) (replies : List Status) (a : Ack) (b : Bool) → (failures replies == 0) ≡ b
    → SendsSuccess (if b then good_turn m e (with_own replies) else failed_turn m e replies) a
    → BooksGood m (Some e) (if b then good_turn m e (with_own replies) else failed_turn m e replies)
passed_by m e replies a true is h = good_books m e (with_own replies)
passed_by m e replies a false is h = absurd (not_failed m e replies a (begins_with_bad_sum replies) is h)

read_by : (m : MemberState) (e : PendingPacket) (replies : List Status) (a : Ack) (b : Bool) → SendsSuccess (if b then pass_turn m e replies else give_up_turn m e) a
    → BooksGood m (Some e) (if b then pass_turn m e replies else give_up_turn m e)
read_by m e replies a true h = passed_by m e replies a (failures replies == 0) refl h
read_by m e replies a false h = absurd (not_given_up m e a h)

read_success : (m : MemberState) (e : PendingPacket) (taken : FromBelow) (a : Ack) → SendsSuccess (ack_turn m e taken) a → BooksGood m (Some e) (ack_turn m e taken)
read_success m e (below.Ack x) a h = read_by m e x.replies a (is_read m.below e.seqno x) h
read_success m e _ a h = absurd (not_given_up m e a h)

not_answered : (m : MemberState) (x : SetupAnswer) (a : Ack) (b : Bool) → SendsSuccess (if b then accept_turn m else fail_turn m x) a → ⊥
not_answered m x a true h = let s : Some (upward.Answer answer.Success) ≡ Some (upward.Ack a) = h.sends in cc
not_answered m x a false h = let s : Some (upward.Answer x) ≡ Some (upward.Ack a) = h.sends in cc

not_setup : (m : MemberState) (taken : FromBelow) (a : Ack) → SendsSuccess (setup_turn m taken) a → ⊥
not_setup m (below.Response r) a h = not_answered m (named_bad r.first_bad) a (is_success r.status) h
not_setup m _ a h = not_answered m answer.Unreached a false h

up_success : (at : Mirror) (m : MemberState) (oldest : Option PendingPacket) (taken : FromBelow) (a : Ack) → SendsSuccess (up_at at m oldest taken) a → (at ≡ mirror.Open) × BooksGood m oldest (up_at at m oldest taken)
up_success mirror.Asked m oldest taken a h = absurd (not_setup m taken a h)
up_success mirror.Open m None taken a h = let s : None ≡ Some (upward.Ack a) = h.sends in cc
up_success mirror.Open m (Some e) taken a h = (refl, read_success m e taken a h)
up_success mirror.Nobody m oldest taken a h = let s : None ≡ Some (upward.Ack a) = h.sends in cc
up_success mirror.Unreachable m oldest taken a h = let s : None ≡ Some (upward.Ack a) = h.sends in cc
up_success mirror.Ended m oldest taken a h = let s : None ≡ Some (upward.Ack a) = h.sends in cc

pub success_from_below : SuccessFromBelow
success_from_below m oldest taken a h = up_success m.mirror m oldest taken a h

-- BY ITSELF

-- a turn in which no such ack goes up
abbrev NoSuccess : Option Turn → Ack → Type 0
NoSuccess t a = IfSome t (λ x. SendsSuccess x a → ⊥)

no_idle : (m : MemberState) (a : Ack) (writes : Bool) → NoSuccess (idle_turn m writes) a
no_idle m a true = tt
no_idle m a false = λ h. let s : None ≡ Some (upward.Ack a) = h.sends in cc

no_quiet : (m : MemberState) (a : Ack) (bad : Option ℤ) (writes : Bool) → NoSuccess (quiet_turn m bad writes) a
no_quiet m a (Some seqno) writes = not_bad m seqno a
no_quiet m a None writes = no_idle m a writes

no_patient : (m : MemberState) (a : Ack) (bad : Option ℤ) → NoSuccess (patient_turn m bad) a
no_patient m a (Some seqno) = not_bad m seqno a
no_patient m a None = tt

-- what sends none has whatever follows from one
none_follows : (P : Turn → Type 0) (t : Option Turn) (a : Ack) → NoSuccess t a → IfSome t (λ x. SendsSuccess x a → P x)
none_follows P None a h = tt
none_follows P (Some t) a h = λ sends. absurd (h sends)

ready_success : (at : Mirror) (m : MemberState) (oldest : Option PendingPacket) (writes : Bool) (a : Ack)
    → IfSome (ready_at at m oldest writes) (λ t. SendsSuccess t a → (at ≡ mirror.Nobody) × BooksGood m oldest t)
ready_success mirror.Asked m oldest writes a = tt
ready_success mirror.Unreachable m oldest writes a = λ h. absurd (not_answered m answer.Unreached a false h)
ready_success mirror.Nobody m (Some e) writes a = λ h. (refl, good_books m e (status.Success ∷ []))
ready_success mirror.Nobody m None writes a =
    none_follows (λ t. (mirror.Nobody ≡ mirror.Nobody) × BooksGood m None t) (quiet_turn m m.bad writes) a (no_quiet m a m.bad writes)
ready_success mirror.Open m (Some e) writes a = tt
ready_success mirror.Open m None writes a =
    none_follows (λ t. (mirror.Open ≡ mirror.Nobody) × BooksGood m None t) (patient_turn m m.bad) a (no_patient m a m.bad)
ready_success mirror.Ended m (Some e) writes a = λ h. absurd (not_given_up m e a h)
ready_success mirror.Ended m None writes a =
    none_follows (λ t. (mirror.Ended ≡ mirror.Nobody) × BooksGood m None t) (quiet_turn m m.bad writes) a (no_quiet m a m.bad writes)

pub success_at_the_end : SuccessAtTheEnd
success_at_the_end m oldest writes a = ready_success m.mirror m oldest writes a
